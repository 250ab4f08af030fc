-- Answers in the proof of `judging::judge_change`.
use Rattle.std.specs.Prelude.{ℕ, List}
use Rattle.std.proofs.Common.{ap, ◌∙◌}
use Rattle.psi_log_format.specs.Listed.{shown}
use Rattle.psi_replay.specs.Verdict.{is_within}
use Rattle.psi_replay.proofs.JudgingLemmas.{drawn_judged}
use Rattle.psi_replay.proofs.judging.judge_change.Goals as goal

pub returns-clause-value : goal.returns-clause-value
returns-clause-value g c =
    let line = c.args.line.now in
    let within = c.is_within.ensures ∙ ap (λ (caps : List ℕ). is_within caps (shown line.after)) c.caps-caps.ensures.value in
    drawn_judged g.E.EventLaw.function c.args.system.now (g.P.Past.words c.args.past.now) line.line line.time c.drawn_at-number.result.0 c.drawn_at-number.result.1
    (shown c.args.before.now) (record { step = line.step; region = shown line.after }) c.is_within.result c.is_small.result c.step_covers.result c.unless-3.result
    c.drawn_at-number.ensures.number c.drawn_at-number.ensures.event c.in_ok-judge_numbers.ensures within c.is_small.ensures c.step_covers.ensures c.in_ok-unless.ensures c.in_ok-unless-2.ensures c.unless-3.ensures

-- Answers in the proof of `judging::judge_stay`.
use Rattle.std.specs.Prelude.{true}
use Rattle.std.proofs.Common.{sym, refl}
use Rattle.psi_log_format.specs.Listed.{shown}
use Rattle.psi_replay.proofs.JudgingLemmas.{drawn_judged}
use Rattle.psi_replay.proofs.RegionLemmas.{small_itself}
use Rattle.psi_replay.proofs.judging.judge_stay.Goals as goal

pub returns-clause-value : goal.returns-clause-value
returns-clause-value g c =
    let line = c.args.line.now in
    let region = shown line.after in
    drawn_judged g.E.EventLaw.function c.args.system.now (g.P.Past.words c.args.past.now) line.line line.time c.drawn_at-number.result.0 c.drawn_at-number.result.1 region (record { step = line.step; region = region })
    true true c.covers_itself.result c.unless.result c.drawn_at-number.ensures.number c.drawn_at-number.ensures.event c.in_ok-judge_numbers.ensures (sym c.requires.within)
    (sym (small_itself region)) c.covers_itself.ensures refl refl c.unless.ensures

-- Answers in the proof of `verdict`.
use Rattle.std.specs.Prelude.{◌≡◌, ℕ, Some, Ok}
use Rattle.std.proofs.Common.{ap, sym, ◌∙◌, subst}
use Rattle.psi_past.specs.Seeded.{Seeded}
use Rattle.psi_past.specs.SeedWord.{seed_word}
use Rattle.psi_rate.specs.Composition.{system_functions}
use Rattle.psi_rate.proofs.FunctionsLemmas.{functions-closed}
use Rattle.psi_log_format.specs.declared.header.Header.{Header}
use Rattle.psi_log_format.specs.Log.{LogRegion}
use Rattle.psi_log.specs.Told.{region_at}
use Rattle.psi_log_format.specs.Listed.{shown}
use Rattle.psi_replay.specs.Verdict.{judge_steps, event_numbers, ReachesAccepted, AcceptsWithin}
use Rattle.psi_replay.specs.Passes.{told, and_then}
use Rattle.psi_replay.specs.declared.answers.Verdict.{Verdict}
use Rattle.psi_replay.proofs.AcceptedLemmas.{verdict_reaches, verdict_within}
use Rattle.psi_replay.proofs.PassLemmas.{verdict_is}
use Rattle.psi_replay.proofs.replay.verdict.Goals as goal

pub returns : goal.returns
returns g c =
    let system = c.args.system.now in
    let log = c.args.log.now in
    let under = seed_word log.header.seed log.header.stream in
    let f = system_functions g.E.EventLaw.function system under in
    let closed = functions-closed g.E.EventLaw.capacities g.E.EventLaw.function system under g.met.E.EventLaw.closed c.judge_begin-begun.ensures.fit.same_caps in
    let words = ap (λ (s : Seeded). seed_word s.seed s.stream) (c.new-past.ensures ∙ c.new.ensures) ∙ ap (λ (h : Header). seed_word h.seed h.stream) c.header-header.ensures.value in
    let steps = subst (λ (w : ℕ → ℕ). (last : LogRegion) → region_at log log.header.horizon ≡ Some last
    → and_then (told c.judge_begin-begun.result) (judge_steps system.caps system.limit (event_numbers system w) (system_functions g.E.EventLaw.function system w)
    7 log.header.horizon log.begin log.entries) ≡ and_then (told c.judge_steps-judged.result) (Ok last)) words c.judge_steps-judged.ensures.value in
    let value = c.verdict_from.ensures
    ∙ verdict_is system.caps system.limit (event_numbers system under) f log c.header-header.result (shown c.look.result) (shown c.look-2.result)
    c.end-end.result c.judge_begin-begun.result c.judge_steps-judged.result c.judge_last-last.result c.header-header.ensures.value c.end-end.ensures c.look.ensures.value c.look-2.ensures.value
    c.judge_begin-begun.ensures.value steps c.judge_last-last.ensures in
    record {
      value = value;
      reached = subst (λ (v : Verdict). ReachesAccepted f system.caps v) (sym value)
          (verdict_reaches system.caps system.limit (event_numbers system under) f log c.header-header.ensures.log closed);
      within = subst (λ (v : Verdict). AcceptsWithin system.caps v) (sym value)
          (verdict_within system.caps system.limit (event_numbers system under) f log c.header-header.ensures.log closed);
    }

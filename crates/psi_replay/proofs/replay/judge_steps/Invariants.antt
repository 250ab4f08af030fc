-- Invariants of the loops of `replay::judge_steps`.
use Rattle.std.specs.Prelude.{◌≡◌, ◌+◌, ◌-◌, length, drop, true, Some, OnOk}
use Rattle.psi_rate.specs.Composition.{system_functions}
use Rattle.psi_log_format.specs.Log.{LogRegion}
use Rattle.psi_log.specs.Told.{region_at}
use Rattle.psi_replay.specs.Verdict.{is_within, judge_steps, event_numbers}
use Rattle.psi_replay.specs.Passes.{told, and_then}
use Rattle.psi_replay.proofs.replay.judge_steps.Given as goal

-- what is left of the lines is judged as all of them are
abbrev pub invariant-loop-done : goal.invariant-loop-done
invariant-loop-done g l = record {
  words : g.P.Past.words l.past ≡ g.P.Past.words l.fn.past;
  queues : OnOk l.judged (l.log.header.queues ≡ length l.system.caps);
  within : (r : LogRegion) → region_at l.log l.done ≡ Some r → OnOk l.judged (is_within l.system.caps r ≡ true);
  rest : (r : LogRegion) → region_at l.log l.done ≡ Some r
      → and_then (told l.judged) (judge_steps l.system.caps l.system.limit (event_numbers l.system (g.P.Past.words l.fn.past)) (system_functions g.E.EventLaw.function l.system (g.P.Past.words l.fn.past))
      (7 + l.done) (l.log.header.horizon - l.done) r (drop l.done l.log.entries))
      ≡ and_then (told l.fn.before) (judge_steps l.system.caps l.system.limit (event_numbers l.system (g.P.Past.words l.fn.past)) (system_functions g.E.EventLaw.function l.system (g.P.Past.words l.fn.past))
      7 l.log.header.horizon l.log.begin l.log.entries);
}

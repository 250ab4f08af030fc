-- Invariants of the loops of `steps_of`.
use Rattle.std.proofs.Common.{◌≡◌, ◌<◌, ℕ, length, map, slice_index_or}
use Rattle.psi_follow_keyed.specs.Keyed.{IsStepFor}
use Rattle.psi_follow_keyed.specs.declared.step.Step.TheVariants.{Still}
use Rattle.psi_follow_keyed.proofs.keyed.steps_of.Given as goal

abbrev pub invariant-loop-at : goal.invariant-loop-at
invariant-loop-at g l = record {
  long : length l.steps.items ≡ l.at;
  room : l.steps.cap ≡ length l.events;
  each : (i : ℕ) → i < l.at → IsStepFor l.board (slice_index_or (map g.E.EventLaw.function l.events) i (λ x. x)) (slice_index_or l.steps.items i Still);
}

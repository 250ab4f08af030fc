use Rattle.std.proofs.Common.{◌≡◌, ◌<◌, ◌-◌, ℕ, length, slice_index}
use Rattle.psi_follow_packed.specs.Moves.{guard}
use Rattle.psi_follow_packed.proofs.layout.Layout.offsets.Given as goal

abbrev pub invariant-loop-queue : goal.invariant-loop-queue
invariant-loop-queue g l = record {
  long : length l.offsets ≡ length l.bounds;
  each : (q : ℕ) → q < l.queue → slice_index l.offsets q ≡ guard l.self.bits - slice_index l.bounds q;
}

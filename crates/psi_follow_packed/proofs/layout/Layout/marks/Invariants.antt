use Rattle.std.proofs.Common.{◌≡◌, ◌<◌, ℕ, length, slice_index, slice_index_or}
use Rattle.psi_event.specs.declared.sides.Side.TheVariants.{Any}
use Rattle.psi_follow_packed.specs.Moves.{guard, mark_of}
use Rattle.psi_follow_packed.proofs.layout.Layout.marks.Given as goal

abbrev pub invariant-loop-queue : goal.invariant-loop-queue
invariant-loop-queue g l = record {
  long : length l.marks ≡ length l.sides;
  each : (q : ℕ) → q < l.queue → slice_index l.marks q ≡ mark_of (guard l.self.bits) l.below (slice_index_or l.sides q Any);
}

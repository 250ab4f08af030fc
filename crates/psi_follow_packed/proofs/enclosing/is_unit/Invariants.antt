use Rattle.std.proofs.Common.{◌≡◌, ◌<◌, ℕ, slice_index, slice_index_or}
use Rattle.psi_event.specs.declared.sides.Side.TheVariants.{Any}
use Rattle.psi_follow_packed.specs.UnitEvents.{IsUnitAt}
use Rattle.psi_follow_packed.proofs.enclosing.is_unit.Given as goal

abbrev pub invariant-loop-queue : goal.invariant-loop-queue
invariant-loop-queue l = (q : ℕ) → q < l.queue
    → IsUnitAt (slice_index_or l.pieces.first.sides q Any) (slice_index l.pieces.bounds q) (slice_index l.caps q) (slice_index l.pieces.first.ups q) (slice_index l.pieces.first.downs q)
    × ((slice_index l.pieces.second.ups q ≡ 0) × (slice_index l.pieces.second.downs q ≡ 0))

-- Invariants of the loops of `units_of`.
use Rattle.std.proofs.Common.{◌≡◌, ℕ, ◌<◌, ◌≤◌, length, map, slice_index_or, vec_capacity, None, IfSome}
use Rattle.psi_follow_packed.specs.UnitEvents.{IsUnitFor, unit_masks}
use Rattle.psi_follow_sets.proofs.boxes.units_of.Given as goal

-- the events before this one are known
abbrev pub invariant-loop-number : goal.invariant-loop-number
invariant-loop-number g l = record {
  count : length l.units.items ≡ l.number;
  room : length l.events ≤ vec_capacity l.units;
  known : (i : ℕ) → i < l.number
      → IfSome (slice_index_or l.units.items i None) (λ unit. IsUnitFor g.row.K l.program.packing (slice_index_or (map g.E.EventLaw.function l.course.events) i (λ x. x)) (unit_masks unit));
}

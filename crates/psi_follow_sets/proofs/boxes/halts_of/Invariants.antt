-- Invariants of the loops of `halts_of`.
use Rattle.std.proofs.Common.{◌≡◌, ℕ, ◌<◌, ◌≤◌, length, map, slice_index_or, vec_capacity, false}
use Rattle.psi_event.specs.Law.{IsMonotone}
use Rattle.psi_follow_sets.proofs.boxes.halts_of.Given as goal

-- the events before this one that don't halt are monotone
abbrev pub invariant-loop-number : goal.invariant-loop-number
invariant-loop-number g l = record {
  count : length l.halts.items ≡ l.number;
  room : length l.events ≤ vec_capacity l.halts;
  monotone : (i : ℕ) → i < l.number → slice_index_or l.halts.items i false ≡ false
      → IsMonotone l.course.caps (slice_index_or (map g.E.EventLaw.function l.course.events) i (λ x. x));
}

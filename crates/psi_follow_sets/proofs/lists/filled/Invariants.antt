-- Invariants of the loops of `filled`.
use Rattle.std.specs.Prelude.{◌≡◌, ◌≤◌, ◌<◌, ℕ, length, slice_index_or, vec_capacity}
use Rattle.psi_follow_sets.proofs.lists.filled.Given as goal

abbrev pub invariant-loop-place : goal.invariant-loop-place
invariant-loop-place g l = record {
  room : l.count ≤ vec_capacity l.elements;
  count : length l.elements.items ≡ l._place;
  each : (i : ℕ) → i < l._place → slice_index_or l.elements.items i l.element ≡ l.element;
}

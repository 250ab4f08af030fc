-- Invariants of the loops of `no_sums`.
use Rattle.std.proofs.Common.{◌≡◌, ◌<◌, ◌≤◌, ℕ, false, length, vec_capacity}
use Rattle.psi_closed_arcs.specs.Sums.{has}
use Rattle.psi_closed_arcs.specs.Inner.RowsKept.{sums_at}
use Rattle.psi_closed_arcs.proofs.sums.no_sums.Given as goal

abbrev pub invariant-loop-place : goal.invariant-loop-place
invariant-loop-place l = record {
  room : l.count ≤ vec_capacity l.sums;
  count : length l.sums.items ≡ l._place;
  none : (e t : ℕ) → e < l._place → t < 320 → has (sums_at l.sums.items e) t ≡ false;
}

-- Invariants of the loops of `empty`.
use Rattle.std.proofs.Common.{◌≡◌, ◌<◌, ℕ, false}
use Rattle.psi_closed_arcs.specs.Sums.{has}
use Rattle.psi_closed_arcs.specs.Inner.RowsKept.{sums_at}
use Rattle.psi_closed_arcs.proofs.arcs.empty.Given as goal

abbrev pub invariant-loop-end : goal.invariant-loop-end
invariant-loop-end l = (e t : ℕ) → e < l.end → t < 320 → has (sums_at l.rows e) t ≡ false

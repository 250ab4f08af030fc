-- Invariants of the loops of `fill`.
use Rattle.std.proofs.Common.{◌≡◌, ℕ, ◌<◌, ◌≤◌}
use Rattle.psi_closed_arcs.specs.Inner.RowsKept.{sums_at}
use Rattle.psi_closed_arcs.proofs.reach.fill.Given as goal

abbrev pub invariant-loop-level : goal.invariant-loop-level
invariant-loop-level l = record { each : (i : ℕ) → l.first ≤ i → i < l.level → sums_at l.marks i ≡ l.sums }

-- Invariants of the loops of `count_arcs`.
use Rattle.std.proofs.Common.{◌≡◌, ◌≤◌, length}
use Rattle.psi_closed_arcs.specs.Inner.RowsKept.{arcs_below}
use Rattle.psi_closed_arcs.proofs.arcs.count_arcs.Given as goal

abbrev pub invariant-loop-number : goal.invariant-loop-number
invariant-loop-number l = record {
  count : l.count ≡ length (arcs_below l.rows l.total l.number);
  most : l.count ≤ l.number;
}

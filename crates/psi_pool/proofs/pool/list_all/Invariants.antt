-- Invariants of the loops of `list_all`.
use Rattle.std.proofs.Common.{◌≡◌, length, vec_capacity}
use Rattle.psi_state.specs.Ascending.{HaveSame}
use Rattle.psi_pool.specs.Inner.StateTablesKept.{held, IsStateTable}
use Rattle.psi_pool.proofs.pool.list_all.Given as goal

abbrev pub invariant-loop-merge : goal.invariant-loop-merge
invariant-loop-merge l = record {
  table : IsStateTable l.table;
  members : HaveSame (held l.table) (held l.fn.table);
  room : length l.table.nodes.items ≡ length l.fn.table.nodes.items;
  capacity : vec_capacity l.order ≡ vec_capacity l.fn.order;
}

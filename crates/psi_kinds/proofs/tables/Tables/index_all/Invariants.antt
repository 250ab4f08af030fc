-- Invariants of the loops of `Tables::index_all`.
use Rattle.std.proofs.Common.{◌≡◌, map}
use Rattle.psi_kinds.specs.Rows.{row_of}
use Rattle.psi_kinds.proofs.tables.Tables.index_all.Given as goal

abbrev pub invariant-loop-row : goal.invariant-loop-row
invariant-loop-row l = map row_of l.rows.items ≡ map row_of l.yielded

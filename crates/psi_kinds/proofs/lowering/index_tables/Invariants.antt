-- Invariants of the loops of `index_tables`.
use Rattle.std.proofs.Common.{◌≡◌, take}
use Rattle.psi_kinds.proofs.lowering.index_tables.Given as goal

abbrev pub invariant-loop-i : goal.invariant-loop-i
invariant-loop-i l = l.list.items ≡ take l.i l.tables

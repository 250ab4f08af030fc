-- Invariants of the loops of `Tables::share`.
use Rattle.std.proofs.Common.{◌≡◌, map, take}
use Rattle.psi_kinds.specs.Rows.{row_of}
use Rattle.psi_kinds.proofs.tables.Tables.share.Given as goal

abbrev pub invariant-loop-i : goal.invariant-loop-i
invariant-loop-i l = map row_of l.rows.items ≡ take l.i l.self

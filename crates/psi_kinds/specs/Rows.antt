-- The values of one table of an index event.
use Rattle.std.specs.Prelude.{ℕ, List}
use Rattle.psi_kinds.specs.declared.rows.Row.{Row}
use Rattle.psi_kinds.specs.declared.rows.Row.TheVariants.{Plain, Indexed}

-- the values in their order, whichever way they are kept
abbrev pub row_of : Row → List ℕ
row_of (Plain values) = values.items
row_of (Indexed table) = table

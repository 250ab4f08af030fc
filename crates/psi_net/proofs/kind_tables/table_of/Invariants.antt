-- Invariants of the loops of `table_of`.
use Rattle.std.proofs.Common.{◌≡◌, ◌+◌, [], length, map, drop}
use Rattle.toml.specs.View.{view}
use Rattle.psi_net_document.specs.Values.{each}
use Rattle.psi_net.specs.KindTables.{row_step}
use Rattle.psi_net.proofs.kind_tables.table_of.Given as goal

abbrev pub invariant-loop-number : goal.invariant-loop-number
invariant-loop-number l =
    (each (row_step l.place l.caps l.to) (l.number + 1) l.rows (map view (drop l.number l.values)) ≡ each (row_step l.place l.caps l.to) 1 [] (map view l.values))
    × (length l.rows ≡ l.number)

-- Invariants of the loops of `all_parts`.
use Rattle.std.proofs.Common.{◌≡◌, ◌+◌, [], length, map, drop}
use Rattle.toml.specs.View.{view}
use Rattle.psi_net_document.specs.Values.{each}
use Rattle.psi_net.specs.PartTables.{part_step}
use Rattle.psi_net.proofs.part_tables.all_parts.Given as goal

abbrev pub invariant-loop-value : goal.invariant-loop-value
invariant-loop-value l =
    (each (part_step l.place l.known.names.list.keys l.known.caps) (l.value-index + 1) l.parts (map view (drop l.value-index l.values)) ≡ each (part_step l.place l.known.names.list.keys l.known.caps) 1 [] (map view l.values))
    × (length l.parts ≡ l.value-index)

-- Invariants of the loops of `all_numbers`.
use Rattle.std.proofs.Common.{◌≡◌, ◌+◌, ◌≤◌, [], length, map, drop, vec_capacity}
use Rattle.toml.specs.View.{view}
use Rattle.psi_net_document.specs.Values.{each}
use Rattle.psi_net.specs.KindTables.{number_step}
use Rattle.psi_net.proofs.kind_tables.all_numbers.Given as goal

abbrev pub invariant-loop-value : goal.invariant-loop-value
invariant-loop-value l =
    (each (number_step l.place) (l.value-index + 1) l.numbers.items (map view (drop l.value-index l.values)) ≡ each (number_step l.place) 1 [] (map view l.values))
    × (length l.numbers.items ≡ l.value-index)
    × (length l.values ≤ vec_capacity l.numbers)

-- Invariants of the loops of `all_events`.
use Rattle.std.proofs.Common.{◌≡◌, ◌+◌, [], map, drop}
use Rattle.toml.specs.View.{view}
use Rattle.psi_net_document.specs.Values.{each}
use Rattle.psi_net.specs.EventTables.{event_step}
use Rattle.psi_net.specs.Counting.{IsCounted}
use Rattle.psi_net.specs.Listing.{listed}
use Rattle.std.specs.List.{flat_map}
use Rattle.psi_net_model.specs.Expansion.{expanded, AreSourced}
use Rattle.psi_net.proofs.event_tables.all_events.Given as goal

abbrev pub invariant-loop-index : goal.invariant-loop-index
invariant-loop-index l =
    (each (event_step l.version l.known.queues.items) (l.index + 1) (listed l.known.queues.items l.list) (map view (drop l.index l.values)) ≡ each (event_step l.version l.known.queues.items) 1 (record { names = []; events = [] }) (map view l.values))
    × IsCounted (flat_map (expanded l.known.queues.items) l.list.events.items) l.list.count l.list.values l.list.rates
    × AreSourced l.known.queues.items l.list.events.items

-- Invariants of the loops of `all_queues`.
use Rattle.std.proofs.Common.{◌≡◌, ◌+◌, [], map, drop}
use Rattle.toml.specs.View.{view}
use Rattle.psi_net_document.specs.Values.{each}
use Rattle.psi_net.specs.QueueTables.{queue_step}
use Rattle.psi_net.proofs.queue_tables.all_queues.Given as goal

abbrev pub invariant-loop-index : goal.invariant-loop-index
invariant-loop-index l =
    (each queue_step (l.index + 1) l.queues.items (map view (drop l.index l.values)) ≡ each queue_step 1 [] (map view l.values))
    × (l.names.keys ≡ map (λ q. q.name) l.queues.items)

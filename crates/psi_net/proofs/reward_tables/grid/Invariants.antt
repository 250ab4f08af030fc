-- Invariants of the loops of `grid`.
use Rattle.std.proofs.Common.{◌≡◌, ◌+◌, [], length, map, drop}
use Rattle.toml.specs.View.{view}
use Rattle.psi_net_document.specs.Values.{each}
use Rattle.psi_net.specs.RewardTables.{grid_step}
use Rattle.psi_net.proofs.reward_tables.grid.Given as goal

abbrev pub invariant-loop-number : goal.invariant-loop-number
invariant-loop-number l =
    (each (grid_step l.place l.caps l.queues) (l.number + 1) l.rows (map view (drop l.number l.values)) ≡ each (grid_step l.place l.caps l.queues) 1 [] (map view l.values))
    × (length l.rows ≡ l.number)

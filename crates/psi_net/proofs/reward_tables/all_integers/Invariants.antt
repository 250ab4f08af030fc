-- Invariants of the loops of `all_integers`.
use Rattle.std.proofs.Common.{◌≡◌, ◌+◌, [], map, drop}
use Rattle.toml.specs.View.{view}
use Rattle.psi_net_document.specs.Values.{each}
use Rattle.psi_net.specs.RewardTables.{integer_step}
use Rattle.psi_net.proofs.reward_tables.all_integers.Given as goal

abbrev pub invariant-loop-value : goal.invariant-loop-value
invariant-loop-value l = each (integer_step l.place l.key) (l.value-index + 1) l.numbers (map view (drop l.value-index l.values)) ≡ each (integer_step l.place l.key) 1 [] (map view l.values)

-- Invariants of the loops of `all_rewards`.
use Rattle.std.proofs.Common.{◌≡◌, ◌+◌, [], All, map, drop}
use Rattle.psi_reward.specs.Rewards.{reward_caps}
use Rattle.toml.specs.View.{view}
use Rattle.psi_net_document.specs.Values.{each}
use Rattle.psi_net_model.specs.Draft.{named}
use Rattle.psi_net.specs.RewardTables.{reward_step}
use Rattle.psi_net.proofs.reward_tables.all_rewards.Given as goal

abbrev pub invariant-loop-index : goal.invariant-loop-index
invariant-loop-index l =
    (each (reward_step l.known.names.list.keys l.known.caps) (l.index + 1) (map named l.rewards.items) (map view (drop l.index l.values)) ≡ each (reward_step l.known.names.list.keys l.known.caps) 1 [] (map view l.values))
    × (l.earlier.keys ≡ map (λ r. r.name) (map named l.rewards.items))
    × All (λ v. reward_caps v.reward ≡ l.known.caps) l.rewards.items

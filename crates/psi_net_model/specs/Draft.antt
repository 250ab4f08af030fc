-- The network of what was said of it.
use Rattle.std.specs.Prelude.{◌≡◌, map, All}
use Rattle.std.specs.List.{flat_map}
use Rattle.psi_reward.specs.Rewards.{reward_caps, reward_kind}
use Rattle.psi_net_model.specs.Network.{Network, NamedReward}
use Rattle.psi_net_model.specs.Expansion.{expanded}
use Rattle.psi_net_model.specs.declared.entries.RewardEntry.{RewardEntry}
use Rattle.psi_net_model.specs.declared.entries.Draft.{Draft}

-- a reward with its name
abbrev pub named : RewardEntry → NamedReward
named value = record { name = value.name; kind = reward_kind value.reward }

-- the network of what was said
abbrev pub drafted : Draft → Network
drafted draft = record { queues = draft.queues.items; events = draft.events.items; limit = draft.limit; split = draft.split; rewards = map named draft.rewards.items }

-- the network of what was said before its events are expanded
abbrev pub unexpanded : Draft → Network
unexpanded draft = record (drafted draft) { events = flat_map (expanded draft.queues.items) draft.events.items }

-- the capacities are those of the queues, and the rewards are made with them
pub record IsWhole (draft : Draft) : Type 0 where
  pub caps : draft.caps ≡ map (λ q. q.capacity) draft.queues.items
  pub rewards : All (λ v. reward_caps v.reward ≡ draft.caps) draft.rewards.items

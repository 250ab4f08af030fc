-- What every network keeps.
use Rattle.std.specs.Prelude.{◌≡◌, ℕ, ◌<◌, ◌≤◌, List, length, All, None}
use Rattle.psi_rate.specs.Rates.{AreRates}
use Rattle.psi_kinds.specs.Kinds.{IsKindOf}
use Rattle.psi_kinds.specs.Refusals.{refusal_of}
use Rattle.psi_kinds.specs.declared.Kind.{Kind}
use Rattle.psi_reward.specs.Refusing.{queues_of, numbers_of, IsSmall}
use Rattle.psi_reward.specs.Refusing.{refusal_of as reward_refusal}
use Rattle.psi_reward.specs.declared.RewardKind.{RewardKind}
use Rattle.psi_net_model.specs.Network.{Network, caps_of, rates_of}
use Rattle.psi_net_model.specs.declared.entries.Queue.{Queue}

-- a queue's numbers are in their ranges
pub record IsQueue (queue : Queue) : Type 0 where
  pub some : 1 ≤ queue.capacity
  pub most : queue.capacity ≤ 65535
  pub served : 1 ≤ queue.servers
  pub servers : queue.servers ≤ 64
  pub fits : queue.servers ≤ queue.capacity

-- there are 1 to 32 queues, each with its numbers in their ranges
pub record AreListed (queues : List Queue) : Type 0 where
  pub some : 1 ≤ length queues
  pub few : length queues ≤ 32
  pub each : All IsQueue queues

-- a kind that names queues of these capacities, and that isn't refused
pub record IsAccepted (caps : List ℕ) (kind : Kind) : Type 0 where
  pub named : IsKindOf caps kind
  pub accepted : refusal_of caps kind ≡ None

-- a reward of these capacities that isn't refused
pub record IsReward (caps : List ℕ) (kind : RewardKind) : Type 0 where
  pub queues : All (λ queue. queue < length caps) (queues_of kind)
  pub numbers : All IsSmall (numbers_of kind)
  pub accepted : reward_refusal caps kind ≡ None

-- what every network keeps
pub record IsNetwork (net : Network) : Type 0 where
  pub queues : AreListed net.queues
  pub rates : AreRates (rates_of net)
  pub kinds : All (λ e. IsAccepted (caps_of net) e.kind) net.events
  pub limit : net.limit ≤ 22
  pub some_split : 1 ≤ net.split
  pub most_split : net.split ≤ 4096
  pub few_rewards : length net.rewards ≤ 64

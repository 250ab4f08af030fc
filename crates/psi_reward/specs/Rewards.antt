-- What a reward is of.
use Rattle.std.specs.Prelude.{ℕ, List}
use Rattle.psi_reward.specs.declared.kinds.RewardKind.{RewardKind}
use Rattle.psi_reward.specs.declared.reward.Reward.{Reward}

-- its capacities
abbrev pub reward_caps : Reward → List ℕ
reward_caps reward = reward.caps

-- and its kind
abbrev pub reward_kind : Reward → RewardKind
reward_kind reward = reward.kind

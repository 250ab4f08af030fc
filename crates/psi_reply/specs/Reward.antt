-- The value of a reward at time zero, and what is printed of it.
use Rattle.std.specs.Prelude.{◌≡◌, ℕ, ℤ, List, [], ◌∷◌, Option, Some, None, if◌then◌else◌}
use Rattle.std.specs.Str.{bytes_eq}
use Rattle.psi_io.specs.Sink.{appended}
use Rattle.psi_reward.specs.declared.kinds.RewardKind.{RewardKind}
use Rattle.psi_reward.specs.Worth.{worth_of}
use Rattle.psi_couple.specs.declared.answers.Valued.{Valued}
use Rattle.psi_couple.specs.declared.answers.Valued.TheVariants.{At, NotAt}
use Rattle.psi_couple.specs.Valuing.{value_at, valued_within, IsValued, ReachesValued, DecidesValues}
use Rattle.psi_net_model.specs.Network.{Network, NamedReward, caps_of}
use Rattle.psi_command.specs.declared.status.Status.{Status}
use Rattle.psi_command.specs.declared.status.Status.TheVariants.{Done, NotCoupled, UnknownReward}
use Rattle.psi_reply.specs.Values.{value_text}
use Rattle.psi_reply.specs.Sample.{functions_by_time}

-- the kind of the first reward of this name, if there is one
abbrev pub kind_named : List ℕ → List NamedReward → Option RewardKind
kind_named name [] = None
kind_named name (r ∷ rs) = if bytes_eq r.name name then Some r.kind else kind_named name rs

-- the value that a reward of this kind has at all states with which the region run of each horizon ends, if it has one, under the words
-- of a seed and a stream
unfoldable pub values : Network → (seed stream : ℕ) → RewardKind → ℕ → Option ℤ
values net seed stream kind = value_at (worth_of kind) net.split (functions_by_time net seed stream) (caps_of net)

-- the first value of a reward of this kind, under the words of a seed and a stream
unfoldable pub valuation : Network → (seed stream : ℕ) → RewardKind → Valued
valuation net seed stream kind = valued_within (values net seed stream kind) net.limit

-- the status of a value
abbrev pub value_status : Valued → Status
value_status (At horizon value) = Done
value_status (NotAt limit) = NotCoupled

-- what is printed is the first value of a reward of this kind under the words of the seed and the stream
pub record IsValueOf (before after : Option (List ℕ)) (result : Status) (net : Network) (seed stream : ℕ) (kind : RewardKind) : Type 0 where
  pub valued : Valued
  -- at the least of 1, 2, 4, .., 2^limit at which all states of the region run have one value, with that value, or none where there is none
  pub first : IsValued (values net seed stream kind) net.limit valued
  -- every state that starts there or earlier has that value at time zero
  pub reached : ReachesValued (worth_of kind) (functions_by_time net seed stream) (caps_of net) valued
  -- all states with which each longer run ends have it; where there is none, the states of no run of a horizon up to 2^limit have one value
  pub later : DecidesValues (worth_of kind) net.split (functions_by_time net seed stream) (caps_of net) net.limit valued
  -- the status tells whether there is one
  pub status : result ≡ value_status valued
  -- and out grew by its text
  pub text : after ≡ appended before (value_text valued)

-- what is printed is the value of the reward of a name, where there is one; where there is none, the status tells it
abbrev pub IsRewardOf : Option (List ℕ) → Option (List ℕ) → Status → Network → (seed stream : ℕ) → Option RewardKind → Type 0
IsRewardOf before after result net seed stream None = result ≡ UnknownReward
IsRewardOf before after result net seed stream (Some kind) = IsValueOf before after result net seed stream kind

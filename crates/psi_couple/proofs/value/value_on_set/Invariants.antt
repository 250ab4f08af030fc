-- Invariants of the loops of `value_on_set`.
use Rattle.std.proofs.Common.{◌≡◌, ℕ, ◌<◌, List, slice_index_or}
use Rattle.psi_reward.specs.Rewards.{reward_kind}
use Rattle.psi_reward.specs.Worth.{worth_of}
use Rattle.psi_couple.proofs.value.value_on_set.Given as goal

-- the states so far have the value
abbrev pub invariant-loop-state : goal.invariant-loop-state
invariant-loop-state l = (k : ℕ) (d : List ℕ) → k < l.state-index → worth_of (reward_kind l.reward) (slice_index_or l.states k d) ≡ l.value

-- What a state is worth: the five kinds of rewards.
use Rattle.std.specs.Prelude.{ℕ, ℤ, pos, List, map, count_by, nat_lt, Bool, true, false}
use Rattle.psi_reward.specs.declared.kinds.RewardKind.{RewardKind}
use Rattle.psi_reward.specs.declared.kinds.RewardKind.TheVariants.{Linear, Table, Greatest, Least, Above}
use Rattle.psi_reward.specs.Held.{held}
use Rattle.psi_reward.specs.Sums.{weighted, entry, added}
use Rattle.psi_reward.specs.Ranges.{least, greatest}

-- what a state is worth: the sum of weight times number held, the sum of the rows' entries, the greatest or the least number held,
-- or how many of the listed queues hold more than the level
abbrev pub worth_of : RewardKind → List ℕ → ℤ
worth_of (Linear queues weights) x = added (map weighted weights) (held queues x)
worth_of (Table queues table) x = added (map entry table) (held queues x)
worth_of (Greatest queues) x = greatest (map pos (held queues x))
worth_of (Least queues) x = least (map pos (held queues x))
worth_of (Above queues level) x = pos (count_by (λ v. nat_lt level v) (held queues x))

-- a reward is a sum of weight times number held
abbrev pub is_linear : RewardKind → Bool
is_linear (Linear queues weights) = true
is_linear (Table queues table) = false
is_linear (Greatest queues) = false
is_linear (Least queues) = false
is_linear (Above queues level) = false

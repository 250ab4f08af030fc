-- Rewards and their ranges over small boxes, worked out by hand and computed by the checker.
use Rattle.std.proofs.Common.{◌≡◌, ℕ, List, [], ◌∷◌, Option, Some, None, map, pos, negsuc, ℤ, refl}
use Rattle.psi_state.specs.State.{box}
use Rattle.psi_reward.specs.declared.kinds.RewardKind.{RewardKind}
use Rattle.psi_reward.specs.declared.kinds.RewardKind.TheVariants.{Linear, Table, Greatest, Least, Above}
use Rattle.psi_reward.specs.declared.kinds.RewardRefusal.{RewardRefusal}
use Rattle.psi_reward.specs.declared.kinds.RewardRefusal.TheVariants.{Repeated, Length, Empty}
use Rattle.psi_reward.specs.Ranges.{least, greatest}
use Rattle.psi_reward.specs.Refusing.{refusal_of}
use Rattle.psi_reward.specs.Worth.{worth_of}

-- the least and the greatest over a box
abbrev range : RewardKind → List ℕ → List ℕ → ℤ × ℤ
range kind l h = (least (map (worth_of kind) (box l h)), greatest (map (worth_of kind) (box l h)))

-- two for each customer of the first queue, less one for each of the second
abbrev weighing : RewardKind
weighing = Linear (0 ∷ 1 ∷ []) (pos 2 ∷ negsuc 0 ∷ [])

weighing-worth : map (worth_of weighing) ((1 ∷ 0 ∷ []) ∷ (0 ∷ 2 ∷ []) ∷ (2 ∷ 1 ∷ []) ∷ []) ≡ pos 2 ∷ negsuc 1 ∷ pos 3 ∷ []
weighing-worth = refl

weighing-range : range weighing (0 ∷ 0 ∷ []) (2 ∷ 2 ∷ []) ≡ (negsuc 1, pos 4)
weighing-range = refl

weighing-part : range weighing (1 ∷ 0 ∷ []) (2 ∷ 1 ∷ []) ≡ (pos 1, pos 4)
weighing-part = refl

-- how many of two queues hold a customer, and how many two
above-worth : map (worth_of (Above (0 ∷ 1 ∷ []) 0)) ((1 ∷ 0 ∷ []) ∷ (0 ∷ 0 ∷ []) ∷ (1 ∷ 2 ∷ []) ∷ []) ≡ pos 1 ∷ pos 0 ∷ pos 2 ∷ []
above-worth = refl

above-range : range (Above (0 ∷ 1 ∷ []) 0) (0 ∷ 0 ∷ []) (2 ∷ 2 ∷ []) ≡ (pos 0, pos 2)
above-range = refl

above-one : range (Above (0 ∷ 1 ∷ []) 1) (1 ∷ 0 ∷ []) (2 ∷ 1 ∷ []) ≡ (pos 0, pos 1)
above-one = refl

-- a table that goes down and up
abbrev listing : RewardKind
listing = Table (0 ∷ 1 ∷ []) ((pos 5 ∷ negsuc 0 ∷ pos 2 ∷ []) ∷ (pos 0 ∷ pos 7 ∷ negsuc 9 ∷ []) ∷ [])

listing-range : range listing (0 ∷ 0 ∷ []) (1 ∷ 1 ∷ []) ≡ (negsuc 0, pos 12)
listing-range = refl

listing-inner : range listing (0 ∷ 1 ∷ []) (2 ∷ 1 ∷ []) ≡ (pos 6, pos 12)
listing-inner = refl

listing-worth : map (worth_of listing) ((0 ∷ 0 ∷ []) ∷ (1 ∷ 2 ∷ []) ∷ (2 ∷ 1 ∷ []) ∷ []) ≡ pos 5 ∷ negsuc 10 ∷ pos 9 ∷ []
listing-worth = refl

-- the greatest and the least number held, of two queues and of the second alone
greatest-range : range (Greatest (0 ∷ 1 ∷ [])) (0 ∷ 1 ∷ []) (2 ∷ 1 ∷ []) ≡ (pos 1, pos 2)
greatest-range = refl

least-range : range (Least (0 ∷ 1 ∷ [])) (0 ∷ 1 ∷ []) (2 ∷ 1 ∷ []) ≡ (pos 0, pos 1)
least-range = refl

second-range : range (Greatest (1 ∷ [])) (0 ∷ 0 ∷ []) (2 ∷ 1 ∷ []) ≡ (pos 0, pos 1)
second-range = refl

-- what is refused in a network of two queues with room for two customers each
abbrev refusals : List RewardKind → List (Option RewardRefusal)
refusals kinds = map (refusal_of (2 ∷ 2 ∷ [])) kinds

-- no queue, which is judged first
none-listed : refusals (Greatest [] ∷ Linear [] (pos 1 ∷ []) ∷ []) ≡ Some Empty ∷ Some Empty ∷ []
none-listed = refl

-- a queue twice, which is judged before the lengths
twice-listed : refusals (Least (1 ∷ 1 ∷ []) ∷ Linear (1 ∷ 1 ∷ []) (pos 1 ∷ []) ∷ []) ≡ Some Repeated ∷ Some Repeated ∷ []
twice-listed = refl

-- too few weights, too many, a row that ends before the full queue, and a row too few
unfit : refusals (Linear (0 ∷ 1 ∷ []) (pos 1 ∷ []) ∷ Linear (0 ∷ []) (pos 1 ∷ pos 1 ∷ []) ∷ Table (0 ∷ []) ((pos 1 ∷ pos 1 ∷ []) ∷ [])
    ∷ Table (0 ∷ 1 ∷ []) ((pos 1 ∷ pos 1 ∷ pos 1 ∷ []) ∷ []) ∷ [])
    ≡ Some Length ∷ Some Length ∷ Some Length ∷ Some Length ∷ []
unfit = refl

fit : refusals (weighing ∷ listing ∷ Greatest (1 ∷ []) ∷ Above (0 ∷ []) 9 ∷ []) ≡ None ∷ None ∷ None ∷ None ∷ []
fit = refl

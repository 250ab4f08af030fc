-- Which kinds of rewards are refused, and what is kept of one that is accepted.
use Rattle.std.specs.Prelude.{◌≡◌, ℕ, ◌+◌, ◌<◌, ◌≤◌, ℤ, List, [], ◌∷◌, length, slice_index, slice_index_or, All, Bool, true, false, ◌&&◌, ◌==◌, Option, Some, None}
use Rattle.std.specs.List.{flat_map}
use Rattle.std.specs.Int.RustNames.{unsigned_abs}
use Rattle.psi_state.specs.State.{AreCapacities}
use Rattle.psi_state.specs.Repeats.{repeats}
use Rattle.psi_reward.specs.declared.kinds.RewardKind.{RewardKind}
use Rattle.psi_reward.specs.declared.kinds.RewardKind.TheVariants.{Linear, Table, Greatest, Least, Above}
use Rattle.psi_reward.specs.declared.kinds.RewardRefusal.{RewardRefusal}
use Rattle.psi_reward.specs.declared.kinds.RewardRefusal.TheVariants.{Repeated, Length, Empty}
use Rattle.psi_reward.specs.Held.{held}

-- the queues that a reward lists
abbrev pub queues_of : RewardKind → List ℕ
queues_of (Linear queues weights) = queues
queues_of (Table queues table) = queues
queues_of (Greatest queues) = queues
queues_of (Least queues) = queues
queues_of (Above queues level) = queues

-- the weights, or the entries of all rows
abbrev pub numbers_of : RewardKind → List ℤ
numbers_of (Linear queues weights) = weights
numbers_of (Table queues table) = flat_map (λ row. row) table
numbers_of (Greatest queues) = []
numbers_of (Least queues) = []
numbers_of (Above queues level) = []

-- a weight or an entry: a number from -1,000,000,000 to 1,000,000,000
abbrev pub IsSmall : ℤ → Type 0
IsSmall z = unsigned_abs z ≤ 1000000000

-- no queue is listed
abbrev pub is_none_listed : List ℕ → Bool
is_none_listed [] = true
is_none_listed (queue ∷ queues) = false

-- each queue has a row, with a number for 0 customers up to its capacity
abbrev pub has_rows : List ℕ → List (List ℤ) → Bool
has_rows [] [] = true
has_rows [] (row ∷ rows) = false
has_rows (cap ∷ caps) [] = false
has_rows (cap ∷ caps) (row ∷ rows) = (length row == cap + 1) && has_rows caps rows

-- the first refusal, where no queue is listed, where one stands twice, and where the lengths fit
abbrev pub first_refusal : Bool → Bool → Bool → Option RewardRefusal
first_refusal true repeat fits = Some Empty
first_refusal false true fits = Some Repeated
first_refusal false false false = Some Length
first_refusal false false true = None

-- each row has an entry for the number that the state holds in its queue
abbrev pub ReachRows : List ℕ → List ℕ → List (List ℤ) → Type 0
ReachRows queues x rows = (i : ℕ) → i < length queues → slice_index x (slice_index queues i) < length (slice_index_or rows i [])

-- under these capacities
module _ (caps : List ℕ) where
  -- the weights are as many as the queues, or the rows fit the queues' capacities
  abbrev pub has_lengths : RewardKind → Bool
  has_lengths (Linear queues weights) = length weights == length queues
  has_lengths (Table queues table) = has_rows (held queues caps) table
  has_lengths (Greatest queues) = true
  has_lengths (Least queues) = true
  has_lengths (Above queues level) = true

  -- why a reward of these capacities is refused: no queue is listed, one stands twice, or the lengths don't fit, in this order
  abbrev pub refusal_of : RewardKind → Option RewardRefusal
  refusal_of kind = first_refusal (is_none_listed (queues_of kind)) (repeats (queues_of kind)) (has_lengths kind)

  -- what a reward keeps: its capacities are valid, it isn't refused, its queues are among theirs, and its numbers are small
  pub record IsValid (kind : RewardKind) : Type 0 where
    pub capacities : AreCapacities caps
    pub accepted : refusal_of kind ≡ None
    pub queues : All (λ queue. queue < length caps) (queues_of kind)
    pub numbers : All IsSmall (numbers_of kind)

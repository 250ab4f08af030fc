-- What a move of one customer makes of a set of arcs: the arcs of the states that it changes are shifted, and those of the others stay.
use Rattle.std.specs.Prelude.{◌≡◌, ℕ, ◌+◌, ◌<◌, ◌≤◌, ◌⊎◌, nat_lt, nat_eq, if◌then◌else◌}
use Rattle.psi_closed_arcs.specs.Walks.{Useful}

-- 1 where queue i comes before queue l, else 0
unfoldable pub past : ℕ → ℕ → ℕ
past i l = if nat_lt i l then 1 else 0

-- 1 where queue i is queue l, else 0
unfoldable pub here : ℕ → ℕ → ℕ
here i l = if nat_eq i l then 1 else 0

-- once a customer goes from one queue to another, there are so many before the queue and at it, where there were `sum` and `own`
pub record IsShifted (from to queue sum own sum_then own_then : ℕ) : Type 0 where
  pub sums : sum_then + past from queue ≡ sum + past to queue
  pub owns : own_then + here from queue ≡ own + here to queue

-- the queue is neither of the two, nor between them, so that a move leaves its arcs where they are
abbrev pub IsOutside : ℕ → ℕ → ℕ → Type 0
IsOutside from to l = ((l < from) × (l < to)) ⊎ ((from < l) × (to < l))

-- a customer can go over the arc: there is one where it goes from, and room in all where it goes to
pub record IsShiftable (from to total queue sum own : ℕ) : Type 0 where
  pub behind : past from queue ≤ sum
  pub source : here from queue ≤ own
  pub room : (sum + own) + (past to queue + here to queue) ≤ total + (past from queue + here from queue)

-- the arcs of a set that a rule on queues and their customers allows
abbrev pub Only : (ℕ → ℕ → ℕ → Type 0) → (ℕ → ℕ → Type 0) → ℕ → ℕ → ℕ → Type 0
Only A P l s v = A l s v × P l v

-- the source holds k customers or more, and the target is not full
pub record IsChanging (from k to room l v : ℕ) : Type 0 where
  pub source : l ≡ from → k ≤ v
  pub target : l ≡ to → v < room

-- the source holds less than k customers
abbrev pub IsShort : ℕ → ℕ → ℕ → ℕ → Type 0
IsShort from k l v = l ≡ from → v < k

-- the target is full
abbrev pub IsFull : ℕ → ℕ → ℕ → ℕ → Type 0
IsFull to room l v = l ≡ to → room ≤ v

-- the arc is what becomes of an arc of a state that the move changes
pub record HasShifted (A : ℕ → ℕ → ℕ → Type 0) (n t from k to room l s v : ℕ) : Type 0 where
  pub sum : ℕ
  pub own : ℕ
  pub useful : Useful (Only A (IsChanging from k to room)) n t l sum own
  pub shifted : IsShifted from to l sum own s v

-- the arcs after the move: the shifted ones of the states that it changes, and those of the states whose source is short or whose target is full
abbrev pub Joined : (ℕ → ℕ → ℕ → Type 0) → ℕ → ℕ → ℕ → ℕ → ℕ → ℕ → ℕ → ℕ → ℕ → Type 0
Joined A n t from k to room l s v =
    HasShifted A n t from k to room l s v ⊎ (Useful (Only A (IsShort from k)) n t l s v ⊎ Useful (Only A (IsFull to room)) n t l s v)

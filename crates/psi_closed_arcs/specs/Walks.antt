-- Arcs, and the states that they spell: a state is a walk from the first queue to past the last, as in a decision diagram. A set of arcs is a predicate of a queue, of the
-- customers below it and of its own customers, however it is kept.
use Rattle.std.specs.Prelude.{◌≡◌, ℕ, suc, ◌+◌, ◌<◌, List, [], ◌∷◌, length, take, slice_index}

-- the number of customers of a state
abbrev pub customers : List ℕ → ℕ
customers [] = 0
customers (v ∷ vs) = v + customers vs

-- the state x holds so many customers at a queue, and so many before it
pub record IsArc (x : List ℕ) (queue before value : ℕ) : Type 0 where
  pub place : queue < length x
  pub sum : customers (take queue x) ≡ before
  pub own : slice_index x queue ≡ value

-- from queue i with s customers before it, these numbers of customers lead over arcs of the set to t customers
abbrev pub Walk : (ℕ → ℕ → ℕ → Type 0) → ℕ → ℕ → List ℕ → ℕ → Type 0
Walk A i s [] t = s ≡ t
Walk A i s (v ∷ vs) t = A i s v × Walk A (suc i) (s + v) vs t

-- x is a state of n queues with t customers, each of whose arcs is in the set
abbrev pub Held : (ℕ → ℕ → ℕ → Type 0) → ℕ → ℕ → List ℕ → Type 0
Held A n t x = (length x ≡ n) × Walk A 0 0 x t

-- a walk leads from the first queue to queue l, with s customers before it
abbrev pub Before : (ℕ → ℕ → ℕ → Type 0) → ℕ → ℕ → Type 0
Before A l s = (xs : List ℕ) × (length xs ≡ l) × Walk A 0 0 xs s

-- a walk leads from queue l, with s customers before it, past the last of n queues, with t customers
abbrev pub After : (ℕ → ℕ → ℕ → Type 0) → ℕ → ℕ → ℕ → ℕ → Type 0
After A n t l s = (ys : List ℕ) × (l + length ys ≡ n) × Walk A l s ys t

-- the arc is on a walk over all n queues to t customers
pub record Useful (A : ℕ → ℕ → ℕ → Type 0) (n t l s v : ℕ) : Type 0 where
  pub before : Before A l s
  pub arc : A l s v
  pub after : After A n t (suc l) (s + v)

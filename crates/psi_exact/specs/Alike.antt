-- States that an event moves alike: what it makes of them differs in just the customers in which they differ themselves.
use Rattle.std.specs.Prelude.{◌≡◌, ℕ, ◌+◌, ◌*◌, ◌%◌, ◌<◌, ◌≤◌, ◌⊎◌, List, length, slice_index}
use Rattle.psi_state.specs.State.{IsBelow}
use Rattle.psi_exact.specs.Ranks.{rank_of}

-- the queue has as many customers after the event as before it, in each state
pub record IsKept (caps : List ℕ) (f : List ℕ → List ℕ) (q : ℕ) : Type 0 where
  pub each : (x : List ℕ) → IsBelow x caps → slice_index (f x) q ≡ slice_index x q

-- the number is the queue's capacity, or none where the queue is kept
abbrev pub IsSpanned : List ℕ → (List ℕ → List ℕ) → ℕ → ℕ → Type 0
IsSpanned caps f q v = (v ≡ slice_index caps q) ⊎ ((v ≡ 0) × IsKept caps f q)

-- the capacities of some queues, none of the others, and these are kept
pub record IsSpan (caps : List ℕ) (f : List ℕ → List ℕ) (span : List ℕ) : Type 0 where
  pub same_length : length span ≡ length caps
  pub each : (q : ℕ) → q < length caps → IsSpanned caps f q (slice_index span q)

-- the states have the same numbers in the queues of the span
pub record AgreeIn (span x y : List ℕ) : Type 0 where
  pub each : (q : ℕ) → q < length span → 0 < slice_index span q → slice_index x q ≡ slice_index y q

-- the event makes the same of all states that agree with y in the span, there
pub record IsOneMove (caps : List ℕ) (f : List ℕ → List ℕ) (span y : List ℕ) : Type 0 where
  pub each : (x z : List ℕ) → IsBelow x caps → IsBelow z caps → AgreeIn span x y → AgreeIn span z y → AgreeIn span (f x) (f z)

-- it makes the same of states that agree in the span, there
pub record MovesAlike (caps : List ℕ) (f : List ℕ → List ℕ) (span : List ℕ) : Type 0 where
  pub each : (x z : List ℕ) → IsBelow x caps → IsBelow z caps → AgreeIn span x z → AgreeIn span (f x) (f z)

-- at the state's rank stands that of what the function makes of it
abbrev pub IsRight : List ℕ → (List ℕ → List ℕ) → List ℕ → List ℕ → Type 0
IsRight caps f ranks x = slice_index ranks (rank_of caps x) ≡ rank_of caps (f x)

-- the state has no customers in the first queues, so many, where the span has none
pub record IsBase (span x : List ℕ) (count : ℕ) : Type 0 where
  pub each : (q : ℕ) → q < count → slice_index span q ≡ 0 → slice_index x q ≡ 0

-- so is it at the ranks of all such states
pub record AreFilled (caps : List ℕ) (f : List ℕ → List ℕ) (span : List ℕ) (count : ℕ) (ranks : List ℕ) : Type 0 where
  pub each : (x : List ℕ) → IsBelow x caps → IsBase span x count → IsRight caps f ranks x

-- the first numbers of the span, so many, and none after them
pub record IsFront (span : List ℕ) (count : ℕ) (front : List ℕ) : Type 0 where
  pub same_length : length front ≡ length span
  pub same : (q : ℕ) → q < count → slice_index front q ≡ slice_index span q
  pub none : (q : ℕ) → count ≤ q → slice_index front q ≡ 0

-- the ranks of the first stride from a base on stand there still, and once more in each stride after it, raised by how far that is, modulo 2^16
pub record IsSpread (base stride width : ℕ) (old new : List ℕ) : Type 0 where
  pub each : (g c : ℕ) → 1 ≤ g → g < width → c < stride → slice_index new (base + g * stride + c) ≡ (slice_index old (base + c) + g * stride) % 65536
  pub before : (k : ℕ) → k < base + stride → slice_index new k ≡ slice_index old k
  pub behind : (k : ℕ) → base + width * stride ≤ k → slice_index new k ≡ slice_index old k

-- the state with full queues outside the span
pub record IsTop (caps span x top : List ℕ) : Type 0 where
  pub same_length : length top ≡ length x
  pub same : (q : ℕ) → q < length x → 0 < slice_index span q → slice_index top q ≡ slice_index x q
  pub full : (q : ℕ) → q < length x → slice_index span q ≡ 0 → slice_index top q ≡ slice_index caps q

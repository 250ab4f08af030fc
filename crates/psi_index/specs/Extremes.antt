-- The least and the greatest value of a stretch of a list, and lists that rise.
use Rattle.std.specs.Prelude.{◌≡◌, ℕ, ◌+◌, ◌-◌, ◌^◌, ◌<◌, ◌≤◌, List, [], ◌∷◌, length, min, max, slice_index, slice_range}

-- the least number of a list
abbrev pub least_of : List ℕ → ℕ
least_of [] = 0
least_of (x ∷ []) = x
least_of (x ∷ y ∷ ys) = min x (least_of (y ∷ ys))

-- the greatest number of a list
abbrev pub greatest_of : List ℕ → ℕ
greatest_of [] = 0
greatest_of (x ∷ []) = x
greatest_of (x ∷ y ∷ ys) = max x (greatest_of (y ∷ ys))

-- the values at the places from the first to the last, both included
abbrev pub stretch : List ℕ → ℕ → ℕ → List ℕ
stretch values first last = slice_range values first (last + 1)

-- no value is below the one before it
pub record IsRising (values : List ℕ) : Type 0 where
  pub each : (i : ℕ) → i + 1 < length values → slice_index values i ≤ slice_index values (i + 1)

-- so many values stand before the first that is below the one before it: all where there is none
pub record IsFront (values : List ℕ) (front : ℕ) : Type 0 where
  pub within : front ≤ length values
  pub rises : (i : ℕ) → i + 1 < front → slice_index values i ≤ slice_index values (i + 1)
  pub falls : front < length values → slice_index values front < slice_index values (front - 1)

-- what an `IndexTable` holds: 1 to 65,535 values, each of 32 bits
pub record IsValueList (values : List ℕ) : Type 0 where
  pub some : 1 ≤ length values
  pub few : length values ≤ 65535
  pub each : (i : ℕ) → slice_index values i < 2 ^ 32

-- m is the least value at the places from first on and before past
pub record IsLeast (values : List ℕ) (first past m : ℕ) : Type 0 where
  pub below : (k : ℕ) → first ≤ k → k < past → m ≤ slice_index values k
  pub reached : (k : ℕ) × (first ≤ k) × (k < past) × (slice_index values k ≡ m)

-- for each stretch of this width, by its first place, its least value
pub record AreLeast (values : List ℕ) (width : ℕ) (entries : List ℕ) : Type 0 where
  pub count : length entries + width ≡ length values + 1
  pub each : (i : ℕ) → i + width ≤ length values → IsLeast values i (i + width) (slice_index entries i)

-- what is left of the greatest number of 32 bits
abbrev pub complement : ℕ → ℕ
complement value = 2 ^ 32 - 1 - value

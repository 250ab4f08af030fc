-- How many different numbers stand in a list, and whether they are all one.
use Rattle.std.specs.Prelude.{◌≡◌, ℕ, suc, ◌<◌, List, [], ◌∷◌, Bool, length, slice_index, nat_eq, if◌then◌else◌}
use Rattle.std.specs.List.{list_any}

-- the number stands in the list
abbrev pub stands : ℕ → List ℕ → Bool
stands n xs = list_any (λ m. nat_eq n m) xs

-- the number of different numbers of a list
abbrev pub distinct_count : List ℕ → ℕ
distinct_count [] = 0
distinct_count (x ∷ xs) = if stands x xs then distinct_count xs else suc (distinct_count xs)

-- each number of the list is this one
pub record AreAll (n : ℕ) (xs : List ℕ) : Type 0 where
  pub each : (k : ℕ) → k < length xs → slice_index xs k ≡ n

-- a number of the list isn't the first
pub record AreMixed (xs : List ℕ) : Type 0 where
  pub place : ℕ
  pub within : place < length xs
  pub apart : slice_index xs place ≡ slice_index xs 0 → ⊥

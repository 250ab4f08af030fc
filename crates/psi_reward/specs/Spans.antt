-- The least and the greatest value of a function, both reached: over numbers, over lists of numbers and over states.
use Rattle.std.specs.Prelude.{◌≡◌, ℕ, ◌≤◌, ℤ, ◌≤ℤ◌, List}
use Rattle.psi_state.specs.Members.{In}
use Rattle.psi_state.specs.Boxes.{IsBetween}
use Rattle.psi_reward.specs.Ranges.{IsReached}

-- over the numbers from l to h
pub record IsSpan (f : ℕ → ℤ) (l h : ℕ) (low high : ℤ) : Type 0 where
  pub above : (v : ℕ) → l ≤ v → v ≤ h → low ≤ℤ f v
  pub below : (v : ℕ) → l ≤ v → v ≤ h → f v ≤ℤ high
  pub low_at : (v : ℕ) × (l ≤ v) × (v ≤ h) × (f v ≡ low)
  pub high_at : (v : ℕ) × (l ≤ v) × (v ≤ h) × (f v ≡ high)

-- over the lists of numbers between two lists
pub record IsSpread (f : List ℕ → ℤ) (ls hs : List ℕ) (low high : ℤ) : Type 0 where
  pub above : (vs : List ℕ) → IsBetween ls hs vs → low ≤ℤ f vs
  pub below : (vs : List ℕ) → IsBetween ls hs vs → f vs ≤ℤ high
  pub low_at : (vs : List ℕ) × IsBetween ls hs vs × (f vs ≡ low)
  pub high_at : (vs : List ℕ) × IsBetween ls hs vs × (f vs ≡ high)

-- over the states of a list
pub record IsRange (f : List ℕ → ℤ) (xs : List (List ℕ)) (low high : ℤ) : Type 0 where
  pub above : (x : List ℕ) → In x xs → low ≤ℤ f x
  pub below : (x : List ℕ) → In x xs → f x ≤ℤ high
  pub low_at : IsReached f xs low
  pub high_at : IsReached f xs high

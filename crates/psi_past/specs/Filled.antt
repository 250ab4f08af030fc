-- A list that has the words of a past.
use Rattle.std.specs.Prelude.{◌≡◌, ℕ, ◌+◌, ◌<◌, List, length, slice_index}

-- the list has the words of the places from this one on
pub record AreWordsFrom (words : ℕ → ℕ) (place : ℕ) (items : List ℕ) : Type 0 where
  pub each : (i : ℕ) → i < length items → slice_index items i ≡ words (place + i)

-- Runs over the numbers of events, from the last number on.
use Rattle.std.specs.Prelude.{ℕ, ◌<◌, List, [], ◌∷◌, length, slice_index, slice_index_or}
use Rattle.psi_event.specs.Law.{Function}

-- what the events of these numbers make of a state: that of the last number comes first
abbrev pub follow_numbers : List Function → List ℕ → List ℕ → List ℕ
follow_numbers functions [] x = x
follow_numbers functions (number ∷ numbers) x = slice_index_or functions number (λ y. y) (follow_numbers functions numbers x)

-- each of the numbers is an event's
pub record AreEvents (count : ℕ) (numbers : List ℕ) : Type 0 where
  pub each : (i : ℕ) → i < length numbers → slice_index numbers i < count

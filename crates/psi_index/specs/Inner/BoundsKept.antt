-- What bounds the values of a table up to a place, and from a place on.
use Rattle.std.specs.Prelude.{◌≡◌, ℕ, ◌<◌, ◌≤◌, Bool, false, List, length, slice_index}

-- no value is above the entry of a place at or after it
pub record ArePeaks (values peaks : List ℕ) : Type 0 where
  pub count : length peaks ≡ length values
  pub above : (i k : ℕ) → k ≤ i → i < length values → slice_index values k ≤ slice_index peaks i

-- no value is below the entry of a place at or before it
pub record AreTroughs (values troughs : List ℕ) : Type 0 where
  pub count : length troughs ≡ length values
  pub below : (i k : ℕ) → i ≤ k → k < length values → slice_index troughs i ≤ slice_index values k

-- the bounds of values that don't rise
pub record AreBounds (values peaks troughs : List ℕ) (rises : Bool) : Type 0 where
  pub up_to : rises ≡ false → ArePeaks values peaks
  pub from_on : rises ≡ false → AreTroughs values troughs

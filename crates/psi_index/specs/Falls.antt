-- Values that fall past a number: some value is at least it, and a later one is below it.
use Rattle.std.specs.Prelude.{ℕ, ◌<◌, ◌≤◌, List, length, slice_index}

-- no value is below the number where an earlier one is at least it
pub record NeverFalls (values : List ℕ) (bound : ℕ) : Type 0 where
  pub each : (v u : ℕ) → v < u → u < length values → bound ≤ slice_index values v → bound ≤ slice_index values u

-- the value at one place is at least the number, and that at a later place is below it
pub record Falls (values : List ℕ) (bound : ℕ) : Type 0 where
  pub place : ℕ
  pub later : ℕ
  pub order : place < later
  pub within : later < length values
  pub high : bound ≤ slice_index values place
  pub low : slice_index values later < bound

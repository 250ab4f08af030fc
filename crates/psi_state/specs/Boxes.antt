-- Which states a box lists: those between its two corners.
use Rattle.std.specs.Prelude.{ℕ, List}
use Rattle.psi_state.specs.State.{IsBelow}

-- what a box lists is between its corners
pub record IsBetween (l h x : List ℕ) : Type 0 where
  pub low : IsBelow l x
  pub high : IsBelow x h

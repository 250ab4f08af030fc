-- When a box holds the image of another.
use Rattle.std.specs.Prelude.{ℕ, List}
use Rattle.psi_state.specs.Members.{In}

-- what the function makes of each of the states is one of the others
pub record Covers (f : List ℕ → List ℕ) (xs ys : List (List ℕ)) : Type 0 where
  pub each : (x : List ℕ) → In x xs → In (f x) ys

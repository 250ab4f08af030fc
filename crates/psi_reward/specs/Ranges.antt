-- The least and the greatest of a list of integers, and values that are reached.
use Rattle.std.specs.Prelude.{◌≡◌, ℕ, ℤ, pos, List, [], ◌∷◌}
use Rattle.std.specs.Int.{int_min, int_max}
use Rattle.psi_state.specs.Members.{In}

-- the least of a list of integers that isn't empty
abbrev pub least : List ℤ → ℤ
least [] = pos 0
least (z ∷ []) = z
least (z ∷ y ∷ ys) = int_min z (least (y ∷ ys))

-- the greatest of a list of integers that isn't empty
abbrev pub greatest : List ℤ → ℤ
greatest [] = pos 0
greatest (z ∷ []) = z
greatest (z ∷ y ∷ ys) = int_max z (greatest (y ∷ ys))

-- some state of the list has this value
abbrev pub IsReached : (List ℕ → ℤ) → List (List ℕ) → ℤ → Type 0
IsReached f xs z = (x : List ℕ) × In x xs × (f x ≡ z)

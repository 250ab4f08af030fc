-- The states of a box from one of them on, in the order of the box's list.
use Rattle.std.specs.Prelude.{ℕ, suc, ◌-◌, List, [], ◌∷◌, ◌++◌, map, Option, Some, None}
use Rattle.psi_state.specs.State.{box}
use Rattle.psi_state.specs.Volume.{layers}

-- the states between two corners from a given one on
abbrev pub onward : List ℕ → List ℕ → List ℕ → List (List ℕ)
onward [] hs x = [] ∷ []
onward (l ∷ ls) [] x = []
onward (l ∷ ls) (h ∷ hs) [] = []
onward (l ∷ ls) (h ∷ hs) (v ∷ x) = map (λ (y : List ℕ). v ∷ y) (onward ls hs x) ++ layers (box ls hs) (suc v) (h - v)

-- the states that are still to come, where the next of them is known
abbrev pub coming : List ℕ → List ℕ → Option (List ℕ) → List (List ℕ)
coming l h None = []
coming l h (Some x) = onward l h x

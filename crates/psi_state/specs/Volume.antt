-- The number of states of a box, as the product of its widths, and the place of each state in the box's list.
use Rattle.std.specs.Prelude.{ℕ, suc, ◌+◌, ◌-◌, ◌*◌, List, [], ◌∷◌, map}
use Rattle.std.specs.List.{flat_map}
use Rattle.psi_state.specs.State.{numbers_from}

-- the number of states between two corners
abbrev pub volume : List ℕ → List ℕ → ℕ
volume [] [] = 1
volume [] (h ∷ hs) = 0
volume (l ∷ ls) [] = 0
volume (l ∷ ls) (h ∷ hs) = (suc h - l) * volume ls hs

-- the place of a state among those between two corners
abbrev pub place_in : List ℕ → List ℕ → List ℕ → ℕ
place_in [] hs x = 0
place_in (l ∷ ls) [] x = 0
place_in (l ∷ ls) (h ∷ hs) [] = 0
place_in (l ∷ ls) (h ∷ hs) (v ∷ x) = (v - l) * volume ls hs + place_in ls hs x

-- the states that begin with one of these numbers and go on as one of the inner list
abbrev pub layers : List (List ℕ) → ℕ → ℕ → List (List ℕ)
layers inner first n = flat_map (λ v. map (λ (x : List ℕ). v ∷ x) inner) (numbers_from first n)

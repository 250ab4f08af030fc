-- Sums over the queues that a reward lists: one function of the number held for each of them.
use Rattle.std.specs.Prelude.{ℕ, ℤ, pos, ◌+ℤ◌, ◌*ℤ◌, List, [], ◌∷◌, slice_index_or}

-- a number of customers with a weight
abbrev pub weighted : ℤ → ℕ → ℤ
weighted weight v = weight *ℤ pos v

-- what a row has for a number of customers, from 0 on
abbrev pub entry : List ℤ → ℕ → ℤ
entry row v = slice_index_or row v (pos 0)

-- the sum of what the functions make of the numbers, each of the number at its own place
abbrev pub added : List (ℕ → ℤ) → List ℕ → ℤ
added [] vs = pos 0
added (f ∷ fs) [] = pos 0
added (f ∷ fs) (v ∷ vs) = f v +ℤ added fs vs

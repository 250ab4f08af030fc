-- Sets of states, written as ascending lists without repeats, and the image of a list under a function.
use Rattle.std.specs.Prelude.{ℕ, List, [], ◌∷◌, map, Option, Some, None}
use Rattle.std.specs.Ordering.{nat_cmp, match_ordering}
use Rattle.std.specs.Cmp.Lexicographic.{slice_cmp}
use Rattle.std.specs.declared.cmp.Ordering.{Ordering}

-- the lexicographic order of states
abbrev pub state_cmp : List ℕ → List ℕ → Ordering
state_cmp x y = slice_cmp nat_cmp x y

-- the set with one state more: the state goes to its place in the order, and one that is there stays
abbrev pub insert_state : List ℕ → List (List ℕ) → List (List ℕ)
insert_state x [] = x ∷ []
insert_state x (y ∷ ys) = match_ordering (state_cmp x y) (x ∷ y ∷ ys) (y ∷ ys) (y ∷ insert_state x ys)

-- the set of the states of a list: in ascending order, without repeats
abbrev pub ascending : List (List ℕ) → List (List ℕ)
ascending [] = []
ascending (x ∷ xs) = insert_state x (ascending xs)

-- the set of what a function makes of the states of a list
abbrev pub image : (List ℕ → List ℕ) → List (List ℕ) → List (List ℕ)
image f xs = ascending (map f xs)

-- the member of a list that has exactly one, and none of an empty or a longer list
abbrev pub single : {A : Type 0} → List A → Option A
single [] = None
single (x ∷ []) = Some x
single (x ∷ y ∷ ys) = None

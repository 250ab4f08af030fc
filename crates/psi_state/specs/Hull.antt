-- The hull of a list of states: the box from its componentwise least to its componentwise greatest values.
use Rattle.std.specs.Prelude.{◌≡◌, ℕ, ◌<◌, List, [], ◌∷◌, length, slice_index, min, max}
use Rattle.psi_state.specs.State.{Corners, box}
use Rattle.psi_state.specs.Members.{In}
use Rattle.psi_state.specs.Boxes.{IsBetween}

-- two lists of one length, joined place by place
abbrev pub join_by : (ℕ → ℕ → ℕ) → List ℕ → List ℕ → List ℕ
join_by f [] ys = []
join_by f (x ∷ xs) [] = []
join_by f (x ∷ xs) (y ∷ ys) = f x y ∷ join_by f xs ys

-- the componentwise least values of a list of states
abbrev pub lows : List (List ℕ) → List ℕ
lows [] = []
lows (x ∷ []) = x
lows (x ∷ y ∷ ys) = join_by min x (lows (y ∷ ys))

-- the componentwise greatest values of a list of states
abbrev pub highs : List (List ℕ) → List ℕ
highs [] = []
highs (x ∷ []) = x
highs (x ∷ y ∷ ys) = join_by max x (highs (y ∷ ys))

-- the corners of the hull of a list of states
abbrev pub corners : List (List ℕ) → Corners
corners xs = record { lo = lows xs; hi = highs xs }

-- the hull of a list of states, which is never empty where a region is followed: of an empty list it would be the box of the empty state
unfoldable pub hull : List (List ℕ) → List (List ℕ)
hull xs = box (lows xs) (highs xs)

-- each state of the list has this length
pub record HaveLength (n : ℕ) (xs : List (List ℕ)) : Type 0 where
  pub each : (x : List ℕ) → In x xs → length x ≡ n

-- the box from l to h is tight around the list: it holds each of its states, and each of its ends is the value of one of them
pub record IsTight (xs : List (List ℕ)) (l h : List ℕ) : Type 0 where
  pub inside : (x : List ℕ) → In x xs → IsBetween l h x
  pub low : (i : ℕ) → i < length l → (x : List ℕ) × In x xs × (slice_index x i ≡ slice_index l i)
  pub high : (i : ℕ) → i < length h → (x : List ℕ) × In x xs × (slice_index x i ≡ slice_index h i)

-- States, their componentwise order and the boxes of states between two corners.
use Rattle.std.specs.Prelude.{◌≡◌, ℕ, zero, suc, ◌-◌, ◌<◌, ◌≤◌, ◌^◌, List, [], ◌∷◌, length, map, replicate, slice_index}
use Rattle.std.specs.List.{flat_map}

-- what a `State` holds: 1 to 32 numbers, each of 16 bits
pub record IsVector (x : List ℕ) : Type 0 where
  pub some : 1 ≤ length x
  pub few : length x ≤ 32
  pub each : (i : ℕ) → slice_index x i < 2 ^ 16

-- what a `Queues` holds: at most 32 numbers, each of 8 bits
pub record AreQueueNumbers (q : List ℕ) : Type 0 where
  pub few : length q ≤ 32
  pub each : (i : ℕ) → slice_index q i < 2 ^ 8

-- capacities: 1 to 32 queues, each with room for 1 to 65,535 customers
pub record AreCapacities (caps : List ℕ) : Type 0 where
  pub some : 1 ≤ length caps
  pub few : length caps ≤ 32
  pub least : (i : ℕ) → i < length caps → 1 ≤ slice_index caps i
  pub most : (i : ℕ) → i < length caps → slice_index caps i ≤ 65535

-- the componentwise order of states; a state of given capacities is one that is below them
pub record IsBelow (x y : List ℕ) : Type 0 where
  pub same_length : length x ≡ length y
  pub each : (i : ℕ) → i < length x → slice_index x i ≤ slice_index y i

-- the two corners of a box of states
pub record Corners : Type 0 where
  pub lo : List ℕ
  pub hi : List ℕ

-- so many numbers one after another, from the first on
abbrev pub numbers_from : ℕ → ℕ → List ℕ
numbers_from first zero = []
numbers_from first (suc n) = first ∷ numbers_from (suc first) n

-- the lexicographic list of the states between two corners, both included
abbrev pub box : List ℕ → List ℕ → List (List ℕ)
box [] [] = [] ∷ []
box [] (h ∷ hs) = []
box (l ∷ ls) [] = []
box (l ∷ ls) (h ∷ hs) =
    flat_map (λ v. map (λ (x : List ℕ). v ∷ x) (box ls hs)) (numbers_from l (suc h - l))

-- no customer in any queue
abbrev pub zeros : List ℕ → List ℕ
zeros caps = replicate (length caps) 0

-- the lexicographic list of all states of these capacities
abbrev pub all_states : List ℕ → List (List ℕ)
all_states caps = box (zeros caps) caps

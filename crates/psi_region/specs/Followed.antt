-- Regions that are followed through the events of numbers, and the networks that followers stand for.
use Rattle.std.specs.Prelude.{◌≡◌, ℕ, ◌≤◌, List, [], ◌∷◌, map, slice_index_or, All, Option, Some, None, false}
use Rattle.psi_state.specs.State.{AreCapacities, Corners, zeros, box}
use Rattle.psi_state.specs.Members.{In}
use Rattle.psi_state.specs.Boxes.{IsBetween}
use Rattle.psi_state.specs.Sets.{single}
use Rattle.psi_event.specs.Law.{Function, IsClosed}
use Rattle.psi_event.specs.Numbers.{follow_numbers}
use Rattle.psi_region.specs.Region.{Area, start, step}

-- what the events of these numbers make of a region: that of the last number comes first
abbrev pub follow_areas : ℕ → List Function → List ℕ → Area → Area
follow_areas split functions [] a = a
follow_areas split functions (number ∷ numbers) a = step split (slice_index_or functions number (λ x. x)) (follow_areas split functions numbers a)

-- the box of these corners, unsplit
abbrev pub unsplit : Corners → Area
unsplit b = record { is_split = false; states = box b.lo b.hi }

-- the capacities, the events' functions and the split number of a network whose runs are followed
pub record Followed : Type 0 where
  pub caps : List ℕ
  pub functions : List Function
  pub split : ℕ

-- the states with which the region of all states ends after the events of the numbers, the last first
abbrev pub states_of : Followed → List ℕ → List (List ℕ)
states_of n numbers = (follow_areas n.split n.functions numbers (start n.caps)).states

-- the one state with which the region of all states ends after the events of the numbers, the last first, if it ends with one
-- (Bušić, Gaujal and Vincent 2008)
abbrev pub ending_of : Followed → List ℕ → Option (List ℕ)
ending_of n numbers = single (follow_areas n.split n.functions numbers (start n.caps)).states

-- two corners are the least and the greatest of the states: both are among them, and each state is between the two
pub record AreEnds (b : Corners) (xs : List (List ℕ)) : Type 0 where
  pub low : In b.lo xs
  pub high : In b.hi xs
  pub between : (x : List ℕ) → In x xs → IsBetween b.lo b.hi x

-- these are what the events of the numbers make of the least and of the greatest state, where each event makes states of states
pub record AreMoved (n : Followed) (numbers l h : List ℕ) : Type 0 where
  pub closed : All (λ f. IsClosed n.caps f) n.functions
  pub least : l ≡ follow_numbers n.functions numbers (zeros n.caps)
  pub greatest : h ≡ follow_numbers n.functions numbers n.caps

-- the one state that two states are, and none where they are apart
abbrev pub IsOne : List ℕ → List ℕ → Option (List ℕ) → Type 0
IsOne x y None = x ≡ y → ⊥
IsOne x y (Some s) = (s ≡ x) × (s ≡ y)

-- the capacities, the events and the split number of a network
pub record Network (E : Type 0) : Type 0 where
  pub caps : List ℕ
  pub events : List E
  pub split : ℕ

-- the same with the functions of the events
abbrev pub followed : {E : Type 0} → (E → Function) → Network E → Followed
followed function n = record { caps = n.caps; functions = map function n.events; split = n.split }

-- the events have the network's capacities, and the split number is one that a region has
pub record IsNetwork {E : Type 0} (capacities : E → List ℕ) (n : Network E) : Type 0 where
  pub valid : AreCapacities n.caps
  pub same_caps : All (λ e. capacities e ≡ n.caps) n.events
  pub some_split : 1 ≤ n.split
  pub most_split : n.split ≤ 4096

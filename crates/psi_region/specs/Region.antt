-- Regions of states: a box followed by its hulls (Bušić, Gaujal and Vincent 2008), and from few states on the set of
-- the states themselves.
use Rattle.std.specs.Prelude.{◌≡◌, ℕ, List, length, Bool, true, false, nat_le, ◌||◌, Option, Some, None}
use Rattle.psi_state.specs.State.{Corners, IsBelow, box, all_states}
use Rattle.psi_state.specs.Members.{In, AreAmong}
use Rattle.psi_state.specs.Sets.{image}
use Rattle.psi_state.specs.Hull.{hull}
use Rattle.psi_state.specs.Ascending.{IsRising}

-- a region: whether it is split, and the ascending list of its states
pub record Area : Type 0 where
  pub is_split : Bool
  pub states : List (List ℕ)

-- a region with the split number: the number of states up to which it is followed state by state
pub record Regional : Type 0 where
  pub split : ℕ
  pub area : Area

-- the box of all states, unsplit
abbrev pub start : List ℕ → Area
start caps = record { is_split = false; states = all_states caps }

-- a split region becomes its image, and an unsplit one the hull of its image
abbrev pub next : Bool → (List ℕ → List ℕ) → List (List ℕ) → Area
next true f xs = record { is_split = true; states = image f xs }
next false f xs = record { is_split = false; states = hull (image f xs) }

-- regions with this split number
module _ (split : ℕ) where
  -- the states of a region are followed one by one in the next step: it is split, or has at most the split number of states
  abbrev pub splits : Area → Bool
  splits a = a.is_split || nat_le (length a.states) split

  -- an unsplit region of at most the split number of states becomes split, keeping its states
  abbrev pub settled : Area → Area
  settled a = record { is_split = splits a; states = a.states }

  -- one step: an unsplit region of few states becomes split first
  unfoldable pub step : (List ℕ → List ℕ) → Area → Area
  step f a = next (settled a).is_split f (settled a).states

-- what is told of a region's box: none where it is split, and its corners where it isn't
abbrev pub ShowsBox : Area → Option Corners → Type 0
ShowsBox a None = a.is_split ≡ true
ShowsBox a (Some b) = (a.is_split ≡ false) × (a.states ≡ box b.lo b.hi)

-- what each region of these capacities is: it has a state, its list is ascending, and its states are within the capacities
pub record IsArea (caps : List ℕ) (a : Area) : Type 0 where
  pub some : (x : List ℕ) × In x a.states
  pub rising : IsRising a.states
  pub within : (x : List ℕ) → In x a.states → IsBelow x caps

-- the first region is the smaller one: its states are among those of the second, and it is split where the second is
pub record IsWithin (a b : Area) : Type 0 where
  pub states : AreAmong a.states b.states
  pub split : b.is_split ≡ true → a.is_split ≡ true

-- How a region is held: the corners of a box, and a set of states that is used once the region is split.
use Rattle.std.specs.Prelude.{◌≡◌, ℕ, List, [], Bool, true, false}
use Rattle.psi_state.specs.State.{Corners, IsBelow, box}
use Rattle.psi_state.specs.Ascending.{IsRising}
use Rattle.psi_state.specs.Members.{In}
use Rattle.psi_pool.specs.Pooled.{Pooled}
use Rattle.psi_region.specs.Region.{Area}

-- the region that is held so
abbrev pub area_of : Bool → Corners → List (List ℕ) → Area
area_of true b xs = record { is_split = true; states = xs }
area_of false b xs = record { is_split = false; states = box b.lo b.hi }

-- the corners are in order; the set is ascending, has room for the split number of states, is empty until the region is split, and holds a state from then on
pub record IsHeld (split : ℕ) (is_split : Bool) (b : Corners) (pool : Pooled) : Type 0 where
  pub room : pool.most ≡ split
  pub empty : is_split ≡ false → pool.states ≡ []
  pub some : is_split ≡ true → (x : List ℕ) × In x pool.states
  pub ordered : IsBelow b.lo b.hi
  pub rising : IsRising pool.states

-- What the regions of a log in memory are seen as: a box, or a set of states that stand in a list.
use Rattle.std.specs.Prelude.{◌≡◌, ℕ, ◌+◌, ◌<◌, ◌≤◌, List, [], length, take, drop, slice_index_or}
use Rattle.psi_state.specs.State.{Corners}
use Rattle.psi_log_format.specs.Log.{LogRegion, in_box, in_set}
use Rattle.psi_log_format.specs.declared.listed_region.ListedRegion.{ListedRegion}
use Rattle.psi_log_format.specs.declared.listed_region.ListedRegion.TheVariants.{Box, Set}
use Rattle.psi_log_format.specs.declared.listed_region.BorrowedRegion.{BorrowedRegion as Borrowed}
use Rattle.psi_log_format.specs.declared.listed_region.BorrowedRegion.TheVariants as borrowed
use Rattle.psi_log_format.specs.declared.region_list.RegionPlace.{RegionPlace}
use Rattle.psi_log_format.specs.declared.region_list.RegionPlace.TheVariants as place

-- a region that is kept
abbrev pub region_of : List (List ℕ) → ListedRegion → LogRegion
region_of states (Box bounds) = in_box bounds
region_of states (Set first count) = in_set (take count (drop first states))

-- the states of a set that is kept stand in the list, and a box that is kept has so many queues
abbrev pub IsThere : ℕ → List (List ℕ) → ListedRegion → Type 0
IsThere queues states (Box bounds) = length bounds.lo ≡ queues
IsThere queues states (Set first count) = first + count ≤ length states

-- a region that is borrowed
abbrev pub shown : Borrowed → LogRegion
shown (borrowed.Box bounds) = in_box bounds.now
shown (borrowed.Set rows) = in_set rows.states

-- the states of a set that is borrowed are of so many queues
abbrev pub HasWidth : ℕ → Borrowed → Type 0
HasWidth queues (borrowed.Box bounds) = Unit {0}
HasWidth queues (borrowed.Set rows) = rows.queues ≡ queues

-- the number of queues, and regions of states of so many queues
pub record Regions : Type 0 where
  pub queues : ℕ
  pub regions : List LogRegion

-- what stands past the end of a list of boxes
abbrev pub nothing : Corners
nothing = record { lo = []; hi = [] }

-- the region of a place in lists of boxes and of states
abbrev pub placed_region : List Corners → List (List ℕ) → RegionPlace → LogRegion
placed_region boxes states (place.Box i) = in_box (slice_index_or boxes i nothing)
placed_region boxes states (place.Set first count) = in_set (take count (drop first states))

-- the box or the states of a place are in the lists
abbrev pub IsPlaced : List Corners → List (List ℕ) → RegionPlace → Type 0
IsPlaced boxes states (place.Box i) = i < length boxes
IsPlaced boxes states (place.Set first count) = first + count ≤ length states

-- Runs by boxes that are followed by their packed corners.
use Rattle.std.specs.Prelude.{◌≡◌, ℕ, ◌≤◌, List, length, take, Some}
use Rattle.psi_state.specs.State.{Corners, box}
use Rattle.psi_state.specs.Sets.{image, single}
use Rattle.psi_event.specs.Law.{Function}
use Rattle.psi_event.specs.Numbers.{follow_numbers}
use Rattle.psi_region.specs.Followed.{follow_areas, unsplit}
use Rattle.psi_follow_packed.specs.Packed.{Packing}
use Rattle.psi_follow_packed.specs.Boxes.{AreCorners}

-- the words are those of the corners of a box within the capacities
pub record IsPackedBox (count : ℕ) (p : Packing) (low high : List ℕ) : Type 0 where
  pub of : Corners
  pub corners : AreCorners count p low high of.lo of.hi

-- the words of the corners of a box, whose region the numbers below a place make what all numbers make of another's
pub record IsCornersRun (count : ℕ) (p : Packing) (functions : List Function) (numbers : List ℕ) (split : ℕ) (from : Corners) (low high : List ℕ) (place : ℕ) : Type 0 where
  pub to : Corners
  pub corners : AreCorners count p low high to.lo to.hi
  pub left : place ≤ length numbers
  pub same : follow_areas split functions (take place numbers) (unsplit to) ≡ follow_areas split functions numbers (unsplit from)

-- so the words of corners become, whatever their box is
abbrev pub RunsCorners : ℕ → Packing → List Function → List ℕ → ℕ → List ℕ → List ℕ → List ℕ → List ℕ → ℕ → Type 0
RunsCorners count p functions numbers split low high low_after high_after place =
    (lo hi : List ℕ) → AreCorners count p low high lo hi
    → IsCornersRun count p functions numbers split (record { lo = lo; hi = hi }) low_after high_after place

-- the functions of the numbers make one state of all states of the box with these packed corners
abbrev pub MeetsAt : ℕ → Packing → List Function → List ℕ → List ℕ → List ℕ → List ℕ → Type 0
MeetsAt count p functions numbers low high s =
    (lo hi : List ℕ) → AreCorners count p low high lo hi → single (image (follow_numbers functions numbers) (box lo hi)) ≡ Some s

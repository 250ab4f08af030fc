-- Events that bring one customer to some queues and take one from others, all at once or not at all, on the packed corners
-- of boxes.
use Rattle.std.specs.Prelude.{◌≡◌, ℕ, ◌-◌, ◌<◌, List, length, map, slice_index, slice_index_or}
use Rattle.psi_state.specs.State.{box}
use Rattle.psi_state.specs.Sets.{image}
use Rattle.psi_state.specs.Hull.{corners}
use Rattle.psi_event.specs.Law.{Function, IsClosed}
use Rattle.psi_event.specs.declared.sides.Side.{Side}
use Rattle.psi_event.specs.declared.sides.Side.TheVariants.{Any, AtLeast, Below}
use Rattle.psi_event.specs.declared.piecewise.Piecewise.{Piecewise}
use Rattle.psi_event.specs.Piecewise.{Does}
use Rattle.psi_follow_packed.specs.Packed.{Packing, IsPacking, packed}
use Rattle.psi_follow_packed.specs.Moves.{guard}
use Rattle.psi_follow_packed.specs.Boxes.{AreCorners}
use Rattle.psi_follow_packed.specs.declared.unit_events.UnitEvent.{UnitEvent}

-- masks of such an event: what brings up the guards, a one for each queue that gains a customer and for each that loses one,
-- and the bits of a field below its guard
pub record UnitMasks : Type 0 where
  pub offsets : List ℕ
  pub ups : List ℕ
  pub downs : List ℕ
  pub shift : ℕ

-- what an event holds
abbrev pub unit_masks : {K : ℕ} → UnitEvent K → UnitMasks
unit_masks m = record { offsets = m.offsets.words; ups = m.ups.words; downs = m.downs.words; shift = m.shift }

-- a queue is left alone, gains a customer where it isn't full, or loses one where it isn't empty
abbrev pub IsUnitAt : Side → ℕ → ℕ → ℕ → ℕ → Type 0
IsUnitAt Any bound cap up down = (up ≡ 0) × (down ≡ 0)
IsUnitAt AtLeast bound cap up down = (bound ≡ 1) × (up ≡ 0) × (down ≡ 1)
IsUnitAt Below bound cap up down = (bound ≡ cap) × (up ≡ 1) × (down ≡ 0)

-- so the first piece does to each queue, and the second changes nothing
pub record IsUnit (caps : List ℕ) (p : Piecewise) : Type 0 where
  pub first : (q : ℕ) → q < length caps
      → IsUnitAt (slice_index_or p.first.sides q Any) (slice_index p.bounds q) (slice_index caps q) (slice_index p.first.ups q) (slice_index p.first.downs q)
  pub second : (q : ℕ) → q < length caps → (slice_index p.second.ups q ≡ 0) × (slice_index p.second.downs q ≡ 0)

-- a function keeps states within the capacities, such pieces do what it does, and the masks are theirs
pub record IsUnitFor (count : ℕ) (p : Packing) (f : Function) (m : UnitMasks) : Type 0 where
  pub packing : IsPacking count p
  pub closed : IsClosed p.caps f
  pub pieces : Piecewise
  pub does : Does p.caps pieces f
  pub unit : IsUnit p.caps pieces
  pub offsets : m.offsets ≡ packed count p (map (λ v. guard p.bits - v) pieces.bounds)
  pub ups : m.ups ≡ packed count p pieces.first.ups
  pub downs : m.downs ≡ packed count p pieces.first.downs
  pub shift : m.shift ≡ p.bits - 1

-- the words of the corners of each box become those of the tight box around what the function makes of it
-- (Bušić, Gaujal and Vincent 2008)
abbrev pub Encloses : ℕ → Packing → Function → List ℕ → List ℕ → List ℕ → List ℕ → Type 0
Encloses count p f low high low_after high_after =
    (lo hi : List ℕ) → AreCorners count p low high lo hi
    → AreCorners count p low_after high_after (corners (image f (box lo hi))).lo (corners (image f (box lo hi))).hi

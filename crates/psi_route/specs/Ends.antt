-- The ends of what a route makes of a box of states: which numbers of customers of a target can stay as they are, and which can be raised.
use Rattle.std.specs.Prelude.{◌≡◌, ◌≢◌, ◌⊎◌, ℕ, ◌+◌, ◌<◌, ◌≤◌, List, length, slice_index}
use Rattle.psi_event.specs.Setting.{AreSet}
use Rattle.psi_route.specs.Routing.{Routing, HasRoom, Lacks}

-- the least number after some of those from low to high are raised by the size: the least one that may stay as it is, where each below it must rise,
-- or else the least one raised
abbrev pub IsLeastAfter : (ℕ → Type 0) → (ℕ → Type 0) → ℕ → ℕ → ℕ → ℕ → Type 0
IsLeastAfter may_stay must_rise size low high u =
    ((v : ℕ) × (low ≤ v) × (v ≤ high) × (v < low + size) × may_stay v × ((t : ℕ) → low ≤ t → t < v → must_rise t) × (u ≡ v))
    ⊎ (((t : ℕ) → low ≤ t → t ≤ high → t < low + size → must_rise t) × (u ≡ low + size))

-- the greatest number: the greatest one that may rise, with what it gains, where each above it must stay as it is, or else the greatest one as it is
abbrev pub IsGreatestAfter : (ℕ → Type 0) → (ℕ → Type 0) → ℕ → ℕ → ℕ → ℕ → Type 0
IsGreatestAfter may_rise must_stay size low high u =
    ((v : ℕ) × (low ≤ v) × (v ≤ high) × (high < v + size) × may_rise v × ((t : ℕ) → v < t → t ≤ high → must_stay t) × (u ≡ v + size))
    ⊎ (((t : ℕ) → low ≤ t → t ≤ high → high < t + size → must_stay t) × (u ≡ high))

-- a route in the box from l to h
module _ (r : Routing) (l h : List ℕ) where
  -- with v customers the target at place j is the chosen one in some state of the box
  pub record CanChoose (j v : ℕ) : Type 0 where
    pub room : HasRoom r j v
    pub serve : r.least ≤ slice_index h r.source
    pub others : (i : ℕ) → i < r.places → i ≢ j → (w : ℕ) × (slice_index l (r.queue i) ≤ w) × (w ≤ slice_index h (r.queue i))
        × (Lacks r i w ⊎ (r.key j v < r.key i w))

  -- with v customers the target at place j gets none in some state of the box
  abbrev pub CanPass : ℕ → ℕ → Type 0
  CanPass j v = Lacks r j v ⊎ (slice_index l r.source < r.least)
      ⊎ ((i : ℕ) × (i < r.places) × (i ≢ j) × ((w : ℕ) × (slice_index l (r.queue i) ≤ w) × (w ≤ slice_index h (r.queue i)) × HasRoom r i w × (r.key i w < r.key j v)))

  -- the least number at a target after the route
  abbrev pub IsLowEnd : ℕ → ℕ → Type 0
  IsLowEnd j u =
      IsLeastAfter (λ v. CanPass j v) (λ v. CanPass j v → ⊥) r.size (slice_index l (r.queue j)) (slice_index h (r.queue j)) u

  -- the greatest one
  abbrev pub IsHighEnd : ℕ → ℕ → Type 0
  IsHighEnd j u =
      IsGreatestAfter (λ v. CanChoose j v) (λ v. CanChoose j v → ⊥) r.size (slice_index l (r.queue j)) (slice_index h (r.queue j)) u

  -- the first n targets have their ends in the box from u to w, and the other queues what they had in the box from l to h
  pub record AreTargetEnds (u w : List ℕ) (n : ℕ) : Type 0 where
    pub low : AreSet r.queue (λ i v. IsLowEnd i v) l u n
    pub high : AreSet r.queue (λ i v. IsHighEnd i v) h w n

-- a route with its function
module _ (r : Routing) (f : List ℕ → List ℕ) where
  -- targets have the numbers that E says; the source has what the function makes of this corner, and the others what they have there
  pub record AreCornerEnds (E : ℕ → ℕ → Type 0) (corner ends : List ℕ) : Type 0 where
    pub count : length ends ≡ r.queues
    pub targets : (j : ℕ) → j < r.places → E j (slice_index ends (r.queue j))
    pub source : r.source < r.queues → slice_index ends r.source ≡ slice_index (f corner) r.source
    pub others : (p : ℕ) → p ≢ r.source → ((i : ℕ) → i < r.places → r.queue i ≢ p) → slice_index ends p ≡ slice_index corner p

  -- u has the least numbers of what the function makes of the box from l to h, and w the greatest ones
  pub record AreEnds (l h u w : List ℕ) : Type 0 where
    pub low : AreCornerEnds (λ j v. IsLowEnd r l h j v) l u
    pub high : AreCornerEnds (λ j v. IsHighEnd r l h j v) h w

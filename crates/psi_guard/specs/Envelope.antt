-- The ends of what a guarded event makes of a box, queue by queue.
use Rattle.std.specs.Prelude.{◌≡◌, ℕ, ◌<◌, ◌≤◌, min, max, Bool, true, false, not, nat_eq, ◌⊎◌, List, slice_index}
use Rattle.psi_guard.specs.declared.parts.Part.{Part}
use Rattle.psi_guard.specs.declared.envelope.Leaving.{Leaving}
use Rattle.psi_guard.specs.declared.envelope.Leaving.TheVariants.{Nowhere, One, Several}
use Rattle.psi_guard.specs.Guarding.{moved}
use Rattle.psi_guard.specs.Rule.{Rule}

-- in this order, u is the first of what becomes of the numbers from l to h: of those moved, where there are any, and of those kept
pub record IsEnd (Moves : Type 0) (Keeps : ℕ → Type 0) (before : ℕ → ℕ → Type 0) (l h image u : ℕ) : Type 0 where
  pub moved : Moves → before u image
  pub kept : (v : ℕ) → l ≤ v → v ≤ h → Keeps v → before u v
  pub reached : (Moves × (u ≡ image)) ⊎ (Keeps u × ((l ≤ u) × (u ≤ h)))

abbrev pub IsLeastEnd : Type 0 → (ℕ → Type 0) → ℕ → ℕ → ℕ → ℕ → Type 0
IsLeastEnd Moves Keeps l h image u = IsEnd Moves Keeps (λ a b. a ≤ b) l h image u

abbrev pub IsGreatestEnd : Type 0 → (ℕ → Type 0) → ℕ → ℕ → ℕ → ℕ → Type 0
IsGreatestEnd Moves Keeps l h image u = IsEnd Moves Keeps (λ a b. b ≤ a) l h image u

-- an event with this rule, in the box from l to h
module _ (r : Rule) (l h : List ℕ) where
  -- some number of queue p in the box from l to h isn't within its guard
  abbrev pub Leaves : ℕ → Type 0
  Leaves p = (slice_index l p < r.least p) ⊎ (r.most p < slice_index h p)

  -- in some state of the box each queue's number is within its guard
  pub record CanMoveAll : Type 0 where
    pub low : (p : ℕ) → p < r.queues → slice_index l p ≤ r.most p
    pub high : (p : ℕ) → p < r.queues → r.least p ≤ slice_index h p

  -- no number of some queue in the box is within its guard
  pub record MissesSome : Type 0 where
    pub queue : ℕ
    pub place : queue < r.queues
    pub out : (slice_index h queue < r.least queue) ⊎ (r.most queue < slice_index l queue)

  -- a queue other than q leaves its guard
  pub record OtherLeaves (q : ℕ) : Type 0 where
    pub queue : ℕ
    pub place : queue < r.queues
    pub other : queue ≡ q → ⊥
    pub out : Leaves queue

  -- queue q may keep the number v
  abbrev pub CanKeep : ℕ → ℕ → Type 0
  CanKeep q v = OtherLeaves q ⊎ ((v < r.least q) ⊎ (r.most q < v))

  -- u is the least number of queue q among what the event makes of the box
  abbrev pub IsLow : ℕ → ℕ → Type 0
  IsLow q u = IsLeastEnd CanMoveAll (λ v. CanKeep q v) (slice_index l q) (slice_index h q) (r.moves q (max (slice_index l q) (r.least q))) u

  -- w is the greatest
  abbrev pub IsHigh : ℕ → ℕ → Type 0
  IsHigh q w = IsGreatestEnd CanMoveAll (λ v. CanKeep q v) (slice_index l q) (slice_index h q) (r.moves q (min (slice_index h q) (r.most q))) w

  -- which queues leave their guards
  abbrev pub Knows : Leaving → Type 0
  Knows Nowhere = (p : ℕ) → p < r.queues → Leaves p → ⊥
  Knows (One q) = (q < r.queues) × Leaves q × ((p : ℕ) → p < r.queues → (p ≡ q → ⊥) → Leaves p → ⊥)
  Knows Several = (p : ℕ) × (q : ℕ) × (p < r.queues) × (q < r.queues) × (p ≡ q → ⊥) × Leaves p × Leaves q

-- whether one other than queue q does
abbrev pub others : Leaving → ℕ → Bool
others Nowhere q = false
others (One p) q = not (nat_eq p q)
others Several q = true

-- queue q leaves its guard too
abbrev pub one_more : Leaving → ℕ → Leaving
one_more Nowhere q = One q
one_more (One p) q = Several
one_more Several q = Several

-- a part's queue may keep the number v: where another queue lets the event stop, or the part does
abbrev pub MayKeep : Part → Bool → ℕ → Type 0
MayKeep part stays v = (stays ≡ true) ⊎ ((v < part.least) ⊎ (part.most < v))

-- a part whose queue holds a number from l to h, where the event may move or may stop for another queue
module _ (part : Part) (l h : ℕ) (moves stays : Bool) where
  -- the least number of a part's queue: of those moved, where there are any, and of those kept
  abbrev pub IsLeastOf : ℕ → Type 0
  IsLeastOf u = IsLeastEnd (moves ≡ true) (λ v. MayKeep part stays v) l h (moved part (max l part.least)) u

  -- the greatest
  abbrev pub IsGreatestOf : ℕ → Type 0
  IsGreatestOf w = IsGreatestEnd (moves ≡ true) (λ v. MayKeep part stays v) l h (moved part (min h part.most)) w

  -- some number of the queue is moved or kept
  abbrev pub CanTurn : Type 0
  CanTurn = (moves ≡ true) ⊎ ((stays ≡ true) ⊎ ((h < part.least) ⊎ (part.most < l)))

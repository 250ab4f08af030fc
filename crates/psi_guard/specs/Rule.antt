-- A guarded event by its queues: each has a guard, and a function on its numbers that rises slowly.
use Rattle.std.specs.Prelude.{◌≡◌, ℕ, ◌+◌, ◌<◌, ◌≤◌, ◌⊎◌, List, length, slice_index}
use Rattle.psi_guard.specs.declared.parts.Part.{Part}
use Rattle.psi_guard.specs.Guarding.{moved, part_of}

-- the queues, their capacities, and for each the least and the most with which the event happens and what it makes of a number
pub record Rule : Type 0 where
  pub queues : ℕ
  pub cap : ℕ → ℕ
  pub least : ℕ → ℕ
  pub most : ℕ → ℕ
  pub moves : ℕ → ℕ → ℕ

pub record IsRule (r : Rule) : Type 0 where
  pub guard : (p : ℕ) → p < r.queues → r.least p ≤ r.most p
  pub most : (p : ℕ) → p < r.queues → r.most p ≤ r.cap p
  pub rises : (p v d : ℕ) → p < r.queues → r.moves p v ≤ r.moves p (v + d)
  pub slow : (p v d : ℕ) → p < r.queues → r.moves p (v + d) ≤ r.moves p v + d
  pub top : (p v : ℕ) → p < r.queues → r.moves p v ≤ r.cap p

abbrev pub rule : List ℕ → List Part → Rule
rule caps parts = record {
  queues = length caps;
  cap = λ p. slice_index caps p;
  least = λ p. (part_of caps parts p).least;
  most = λ p. (part_of caps parts p).most;
  moves = λ p v. moved (part_of caps parts p) v;
}

-- an event with this rule in this state
module _ (r : Rule) (x : List ℕ) where
  -- each queue's number is within its guard
  pub record AllowsAll : Type 0 where
    pub low : (p : ℕ) → p < r.queues → r.least p ≤ slice_index x p
    pub high : (p : ℕ) → p < r.queues → slice_index x p ≤ r.most p

  -- some queue's number isn't
  pub record RefusesSome : Type 0 where
    pub queue : ℕ
    pub place : queue < r.queues
    pub out : (slice_index x queue < r.least queue) ⊎ (r.most queue < slice_index x queue)

  -- y is what the event makes of x
  pub record Makes (y : List ℕ) : Type 0 where
    pub long : length y ≡ r.queues
    pub turn : (AllowsAll × ((p : ℕ) → p < r.queues → slice_index y p ≡ r.moves p (slice_index x p)))
        ⊎ (RefusesSome × ((p : ℕ) → p < r.queues → slice_index y p ≡ slice_index x p))

-- what is known of the part of each queue
pub record FitsGuard (cap : ℕ) (part : Part) : Type 0 where
  pub guard : part.least ≤ part.most
  pub most : part.most ≤ cap
  pub ceiling : part.ceiling ≤ cap

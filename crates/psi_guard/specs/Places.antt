-- The parts of a guarded event by their queues.
use Rattle.std.specs.Prelude.{◌≡◌, ℕ, ◌<◌, List, length, slice_index}
use Rattle.psi_guard.specs.declared.parts.Part.{Part}
use Rattle.psi_guard.specs.Guarding.{free_part, part_of}
use Rattle.psi_guard.specs.Refusals.{at}

-- a queue that a part names
pub record IsNamed (caps : List ℕ) (parts : List Part) (q : ℕ) : Type 0 where
  pub place : ℕ
  pub small : place < length parts
  pub queue : (at parts place).queue ≡ q
  pub part : part_of caps parts q ≡ at parts place

-- one that none names
pub record IsFree (caps : List ℕ) (parts : List Part) (q : ℕ) : Type 0 where
  pub other : (i : ℕ) → i < length parts → (at parts i).queue ≡ q → ⊥
  pub part : part_of caps parts q ≡ free_part (slice_index caps q) q

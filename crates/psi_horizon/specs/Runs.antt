-- Runs of regions: a region is followed from all states through the events of the last steps, the oldest first (coupling
-- from the past, Propp and Wilson 1996, with the envelopes of Bušić, Gaujal and Vincent 2008).
use Rattle.std.specs.Prelude.{◌≡◌, ℕ, zero, suc, ◌-◌, ◌^◌, ◌≤◌, List, [], ◌∷◌, true, Option, None}
use Rattle.psi_state.specs.declared.Outcome.{Outcome}
use Rattle.psi_state.specs.declared.Outcome.TheVariants.{Met, NotMet}
use Rattle.psi_state.specs.Sets.{single}
use Rattle.psi_rate.specs.Composition.{Functions, image_at}
use Rattle.psi_region.specs.Region.{Area, start, step, IsWithin}

-- what the last t steps make of a region: the oldest event comes first
abbrev pub follow : ℕ → Functions → ℕ → Area → Area
follow split f zero a = a
follow split f (suc t) a = follow split f t (step split (f (suc t)) a)

-- the runs of a network with this split number, these functions and these capacities
module _ (split : ℕ) (f : Functions) (caps : List ℕ) where
  -- the region with which the run of a horizon ends: what the last t steps make of the box of all states
  abbrev pub region_at : ℕ → Area
  region_at t = follow split f t (start caps)

  -- the one state with which the run of a horizon ends, if it ends with one
  abbrev pub ending_at : ℕ → Option (List ℕ)
  ending_at t = single (region_at t).states

  -- the region of the run of a horizon after so many of its steps: its first step is that of the time of the horizon
  abbrev pub region_after : ℕ → ℕ → Area
  region_after horizon zero = start caps
  region_after horizon (suc done) = step split (f (horizon - done)) (region_after horizon done)

  -- the regions are ordered by horizon: a longer run's is within a shorter run's, and split where that one is
  pub record AreOrdered : Type 0 where
    pub each : (t : ℕ) → IsWithin (region_at (suc t)) (region_at t)

  -- where an outcome is met, each run from its horizon on ends with its state alone; where it isn't, no run of a horizon up to 2^limit ends with one state
  abbrev pub DecidesRuns : ℕ → Outcome → Type 0
  DecidesRuns limit (Met t s) = (later : ℕ) → t ≤ later → (region_at later).states ≡ s ∷ []
  DecidesRuns limit (NotMet l) = (t : ℕ) → t ≤ 2 ^ limit → ending_at t ≡ None

  -- where there are at most the split number of states, the run of each horizon from 1 on is split, and is the image of all states
  pub record AreExact : Type 0 where
    pub each : (t : ℕ) → 1 ≤ t → region_at t ≡ record { is_split = true; states = image_at f caps t }

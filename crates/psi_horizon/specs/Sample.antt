-- The facts of a sample.
use Rattle.std.specs.Prelude.{ℕ, ◌≤◌, List, length, All}
use Rattle.psi_state.specs.declared.Outcome.{Outcome}
use Rattle.psi_state.specs.declared.Outcome.TheVariants.{Met, NotMet}
use Rattle.psi_state.specs.State.{IsBelow, all_states}
use Rattle.psi_event.specs.Law.{IsMonotone}
use Rattle.psi_rate.specs.Composition.{function_at}
use Rattle.psi_rate.specs.Outcomes.{meeting_at, IsOutcome, ReachesOutcome}
use Rattle.psi_horizon.specs.Runs.{ending_at, DecidesRuns}

-- a state that is met is within the capacities
abbrev pub MeetsWithin : List ℕ → Outcome → Type 0
MeetsWithin caps (Met t s) = IsBelow s caps
MeetsWithin caps (NotMet l) = Unit {0}

-- an outcome is that of coupling from the past (Propp and Wilson 1996) over regions (Bušić, Gaujal and Vincent 2008), for events with these
-- functions and rates under these words
pub record IsSample (caps : List ℕ) (functions : List (List ℕ → List ℕ)) (rates : List ℕ) (limit split : ℕ) (words : ℕ → ℕ) (outcome : Outcome) : Type 0 where
  -- met at the least horizon among 1, 2, 4, .., 2^limit whose region run ends with one state, with that state, or not met where there is none
  pub least : IsOutcome (ending_at split (function_at functions rates words) caps) limit outcome
  -- where it is met, every state that starts there or earlier is in its state at time zero
  pub reached : ReachesOutcome (function_at functions rates words) caps outcome
  -- each longer run ends with that state alone; where it isn't met, no run of a horizon up to 2^limit, a power of two or not, ends with one state
  pub later : DecidesRuns split (function_at functions rates words) caps limit outcome
  -- its state is within the capacities
  pub within : MeetsWithin caps outcome
  -- where each event is monotone, the horizon is the least at which all states have met
  pub monotone : All (λ f. IsMonotone caps f) functions → IsOutcome (meeting_at (function_at functions rates words) caps) limit outcome
  -- and so it is where there are at most the split number of states
  pub small : length (all_states caps) ≤ split → IsOutcome (meeting_at (function_at functions rates words) caps) limit outcome

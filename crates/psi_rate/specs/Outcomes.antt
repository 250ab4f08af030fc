-- Outcomes: the first horizon among 1, 2, 4, .. at which a run of any kind has an answer; and the answer of all states'
-- having met.
use Rattle.std.specs.Prelude.{◌≡◌, ℕ, suc, List, Option, Some, None}
use Rattle.psi_state.specs.declared.Outcome.{Outcome}
use Rattle.psi_state.specs.declared.Outcome.TheVariants.{Met, NotMet}
use Rattle.psi_state.specs.State.{all_states}
use Rattle.psi_state.specs.Sets.{single}
use Rattle.psi_rate.specs.Composition.{Functions, image_from, Below, IsReachedFrom}
use Rattle.psi_rate.specs.Doubling.{first_answer, IsFirst, HasNone}

-- the state in which the states of a list have met (coalesced, Propp and Wilson 1996) that start t steps before time zero, if they have
abbrev pub meeting_from : Functions → List (List ℕ) → ℕ → Option (List ℕ)
meeting_from f xs t = single (image_from f xs t)

-- the state in which all states have met that start t steps before time zero, if they have
abbrev pub meeting_at : Functions → List ℕ → ℕ → Option (List ℕ)
meeting_at f caps t = meeting_from f (all_states caps) t

-- the first answer of a run, told as an outcome
abbrev pub outcome_of : ℕ → Option (ℕ × List ℕ) → Outcome
outcome_of limit None = NotMet limit
outcome_of limit (Some found) = Met found.0 found.1

-- the outcome of a run: its first answer among 1, 2, 4, .., 2^limit
unfoldable pub outcome_within : (ℕ → Option (List ℕ)) → ℕ → Outcome
outcome_within run limit = outcome_of limit (first_answer run limit)

-- the outcome is met at the least of 1, 2, 4, .., 2^limit at which the run has an answer, and with that answer; it is not met where there is none, and tells the limit
abbrev pub IsOutcome : (ℕ → Option (List ℕ)) → ℕ → Outcome → Type 0
IsOutcome run limit (Met t s) = IsFirst run limit t s
IsOutcome run limit (NotMet l) = (l ≡ limit) × HasNone run (suc limit)

-- where the outcome is met, every state of the set that starts at its horizon or earlier is its state at time zero
abbrev pub ReachesFrom : (List ℕ → Type 0) → Functions → Outcome → Type 0
ReachesFrom S f (Met t s) = IsReachedFrom S f t s
ReachesFrom S f (NotMet l) = Unit {0}

-- where the outcome is met, every state that starts at its horizon or earlier is its state at time zero
abbrev pub ReachesOutcome : Functions → List ℕ → Outcome → Type 0
ReachesOutcome f caps o = ReachesFrom (Below caps) f o

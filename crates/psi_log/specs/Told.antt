-- What the readers of a log tell.
use Rattle.std.specs.Prelude.{ℕ, zero, suc, ◌<◌, List, length, Option, Some, None, option_map}
use Rattle.std.specs.List.{slice_get}
use Rattle.psi_state.specs.declared.outcome.Step.{Step}
use Rattle.psi_log_format.specs.Log.{LogRegion, in_box, in_set, Certificate}
use Rattle.psi_log.specs.declared.log.Form.{Form}
use Rattle.psi_log.specs.declared.log.Form.TheVariants.{Box, Set}

-- the region with a number: 0 is the one at which the run begins, and i the one after the i-th step
abbrev pub region_at : Certificate → ℕ → Option LogRegion
region_at c zero = Some c.begin
region_at c (suc i) = option_map (λ e. e.region) (slice_get c.entries i)

-- the form of a region: a box, or how many states a set has
abbrev pub form : LogRegion → Form
form (in_box bounds) = Box bounds
form (in_set states) = Set (length states)

-- the step with a number, counted from 1
abbrev pub step_at : Certificate → ℕ → Option Step
step_at c zero = None
step_at c (suc i) = option_map (λ e. e.step) (slice_get c.entries i)

-- the region is a set that has a state at the place, counted from 0
abbrev pub HasState : ℕ → Option LogRegion → Type 0
HasState place None = ⊥
HasState place (Some (in_box bounds)) = ⊥
HasState place (Some (in_set states)) = place < length states

-- the state at a place of a set
abbrev pub state_in : ℕ → LogRegion → Option (List ℕ)
state_in place (in_box bounds) = None
state_in place (in_set states) = slice_get states place

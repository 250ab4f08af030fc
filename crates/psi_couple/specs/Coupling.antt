-- The least coupling: the least horizon of any length at which a run has an answer (coupling from the past, Propp and
-- Wilson 1996).
use Rattle.std.specs.Prelude.{◌≡◌, ℕ, suc, ◌^◌, List, Option, Some, None}
use Rattle.psi_state.specs.declared.Outcome.TheVariants.{Met, NotMet}
use Rattle.psi_state.specs.State.{IsBelow}
use Rattle.psi_rate.specs.Composition.{Functions, IsReached}
use Rattle.psi_rate.specs.Least.{least_answer, HasNoneBelow, IsLeast}
use Rattle.psi_horizon.specs.Runs.{DecidesRuns}
use Rattle.psi_couple.specs.declared.answers.Coupled.{Coupled}
use Rattle.psi_couple.specs.declared.answers.Coupled.TheVariants.{At, NotAt}

-- the least answer of a run, as a coupling
abbrev pub coupled_of : ℕ → Option (ℕ × List ℕ) → Coupled
coupled_of limit None = NotAt limit
coupled_of limit (Some found) = At found.0 found.1

-- the least coupling of a run: its answer at the least horizon from 1 to 2^limit that has one
unfoldable pub coupled_within : (ℕ → Option (List ℕ)) → ℕ → Coupled
coupled_within run limit = coupled_of limit (least_answer run (2 ^ limit))

-- there is a coupling at the least horizon from 1 to 2^limit at which the run has an answer, with that answer; there is none where no such horizon has one, and the limit is named
abbrev pub IsCoupled : (ℕ → Option (List ℕ)) → ℕ → Coupled → Type 0
IsCoupled run limit (At t s) = IsLeast run (2 ^ limit) t s
IsCoupled run limit (NotAt l) = (l ≡ limit) × HasNoneBelow run (suc (2 ^ limit))

-- where there is a coupling, every state within the capacities that starts at its horizon or earlier is its state at time zero
abbrev pub ReachesCoupled : Functions → List ℕ → Coupled → Type 0
ReachesCoupled f caps (At t s) = IsReached f caps t s
ReachesCoupled f caps (NotAt l) = Unit {0}

-- and each run from its horizon on ends with its state alone; where there is none, no run of a horizon up to 2^limit ends with one state
abbrev pub DecidesCoupled : ℕ → Functions → List ℕ → ℕ → Coupled → Type 0
DecidesCoupled split f caps limit (At t s) = DecidesRuns split f caps limit (Met t s)
DecidesCoupled split f caps limit (NotAt l) = DecidesRuns split f caps limit (NotMet l)

-- and its state is within the capacities
abbrev pub CouplesWithin : List ℕ → Coupled → Type 0
CouplesWithin caps (At t s) = IsBelow s caps
CouplesWithin caps (NotAt l) = Unit {0}

-- Networks in which customers from outside join the queue with the least key, one at a time, and customers leave queues.
use Rattle.std.specs.Prelude.{◌≡◌, ℕ, ◌<◌, List, length, slice_index_or}
use Rattle.psi_state.specs.State.{IsBelow}
use Rattle.psi_event.specs.Law.{Function, IsClosed}
use Rattle.psi_event.specs.Numbers.{follow_numbers}
use Rattle.psi_follow_keyed.specs.Keys.{Keys}
use Rattle.psi_follow_keyed.specs.Steps.{IsStep, DoesStep}
use Rattle.psi_follow_keyed.specs.declared.step.Step.{Step}
use Rattle.psi_follow_keyed.specs.declared.step.Step.TheVariants.{Still}

-- the keys of the targets, and a step for each event
pub record Keying : Type 0 where
  pub keys : Keys
  pub steps : List Step

-- the steps name queues
pub record AreSteps (k : Keys) (steps : List Step) : Type 0 where
  pub each : (i : ℕ) → i < length steps → IsStep k (slice_index_or steps i Still)

-- a function keeps states within the capacities, and does what a step does, which names a queue
pub record IsStepFor (k : Keys) (f : Function) (step : Step) : Type 0 where
  pub valid : IsStep k step
  pub closed : IsClosed k.caps f
  pub does : DoesStep k step f

-- the steps are those of these functions
pub record AreStepsFor (k : Keys) (functions : List Function) (steps : List Step) : Type 0 where
  pub count : length steps ≡ length functions
  pub each : (i : ℕ) → i < length functions → IsStepFor k (slice_index_or functions i (λ x. x)) (slice_index_or steps i Still)

-- the steps are those of these functions on states of these capacities
pub record IsKeyed (caps : List ℕ) (functions : List Function) (k : Keying) : Type 0 where
  pub same_caps : k.keys.caps ≡ caps
  pub steps : AreStepsFor k.keys functions k.steps

-- a state becomes what the functions of these numbers make of it
abbrev pub Follows : Keying → List ℕ → List ℕ → List ℕ → Type 0
Follows k numbers before after =
    (caps : List ℕ) (functions : List Function) → IsKeyed caps functions k → IsBelow before caps → after ≡ follow_numbers functions numbers before

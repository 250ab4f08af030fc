-- What the events of a network do, as steps.
use Rattle.std.specs.Prelude.{◌≡◌, ℕ, ◌<◌, ◌≤◌, List, length}
use Rattle.psi_state.specs.State.{IsBelow}
use Rattle.psi_event.specs.Law.{Function}
use Rattle.psi_follow_keyed.specs.Keys.{Keys, IsPlaceOf, Joins, left}
use Rattle.psi_follow_keyed.specs.declared.step.Step.{Step}
use Rattle.psi_follow_keyed.specs.declared.step.Step.TheVariants.{Still, Leave, Join}

-- a step names a queue, from one customer on, and its place
abbrev pub IsStepOn : List ℕ → List ℕ → Step → Type 0
IsStepOn caps targets Still = Unit {0}
IsStepOn caps targets (Leave queue least place) = (queue < length caps) × (1 ≤ least) × IsPlaceOf targets queue place
IsStepOn caps targets Join = Unit {0}

abbrev pub IsStep : Keys → Step → Type 0
IsStep k step = IsStepOn k.caps k.targets step

-- a function does to the states within the capacities what a step does that lets no customer join
abbrev pub DoesLeave : List ℕ → Step → Function → Type 0
DoesLeave caps Still f = (x : List ℕ) → IsBelow x caps → f x ≡ x
DoesLeave caps (Leave queue least place) f = (x : List ℕ) → IsBelow x caps → f x ≡ left queue least x
DoesLeave caps Join f = ⊥

-- a function does what a step does
abbrev pub DoesStep : Keys → Step → Function → Type 0
DoesStep k Still f = DoesLeave k.caps Still f
DoesStep k (Leave queue least place) f = DoesLeave k.caps (Leave queue least place) f
DoesStep k Join f = Joins k f

-- the step of an event by which customers leave
pub record IsLeaving (caps targets : List ℕ) (f : Function) (step : Step) : Type 0 where
  pub valid : IsStepOn caps targets step
  pub does : DoesLeave caps step f

-- y is what a step makes of x
abbrev pub IsMade : Keys → Step → List ℕ → List ℕ → Type 0
IsMade k step x y = (f : Function) → DoesStep k step f → y ≡ f x

-- Steps that are put one after another.
use Rattle.std.specs.Prelude.{◌≡◌, ℕ, List, Option, Some, None, IfSome}
use Rattle.std.proofs.Common.{sym, subst}
use Rattle.psi_state.specs.State.{IsBelow}
use Rattle.psi_event.specs.Law.{Function, IsClosed}
use Rattle.psi_follow_keyed.specs.Keys.{Keys}
use Rattle.psi_follow_keyed.specs.Steps.{IsStepOn, DoesLeave, DoesStep, IsLeaving}
use Rattle.psi_follow_keyed.specs.Keyed.{IsStepFor}
use Rattle.psi_follow_keyed.specs.declared.step.Step.{Step}
use Rattle.psi_follow_keyed.specs.declared.step.Step.TheVariants.{Still, Leave, Join}

-- what a step that lets no customer join does, by the capacities of the keys
does-step : (k : Keys) (caps : List ℕ) (f : Function) (step : Step) → caps ≡ k.caps → DoesLeave caps step f → DoesStep k step f
does-step k caps f Still same does = λ x below. does x (subst (λ (cs : List ℕ). IsBelow x cs) (sym same) below)
does-step k caps f (Leave queue least place) same does = λ x below. does x (subst (λ (cs : List ℕ). IsBelow x cs) (sym same) below)
does-step k caps f Join same does = absurd does

pub leaving-for : (k : Keys) (caps targets : List ℕ) (f : Function) (o : Option Step) → caps ≡ k.caps → targets ≡ k.targets → IsClosed caps f
    → IfSome o (λ step. IsLeaving caps targets f step) → IfSome o (λ step. IsStepFor k f step)
leaving-for k caps targets f None same named closed found = tt
leaving-for k caps targets f (Some step) same named closed found = record {
  valid = subst (λ (cs : List ℕ). IsStepOn cs k.targets step) same (subst (λ (ts : List ℕ). IsStepOn caps ts step) named found.valid);
  closed = subst (λ (cs : List ℕ). IsClosed cs f) same closed;
  does = does-step k caps f step same found.does;
}

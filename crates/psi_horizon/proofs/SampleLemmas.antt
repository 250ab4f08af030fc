-- The outcome of the region runs has all facts of a sample, also of functions that agree on the states of the capacities.
use Rattle.std.specs.Prelude.{◌≡◌, ℕ, List, Some}
use Rattle.std.proofs.Common.{subst}
use Rattle.psi_state.specs.declared.Outcome.{Outcome}
use Rattle.psi_state.specs.declared.Outcome.TheVariants.{Met, NotMet}
use Rattle.psi_state.specs.State.{IsBelow}
use Rattle.psi_state.specs.Sets.{single}
use Rattle.psi_state.proofs.SetsLemmas.{single-each}
use Rattle.psi_rate.specs.Composition.{function_at, AreClosed}
use Rattle.psi_rate.specs.Outcomes.{IsOutcome}
use Rattle.psi_rate.proofs.FunctionsLemmas.{function_at-monotone}
use Rattle.psi_region.specs.Region.{Area, IsArea}
use Rattle.psi_horizon.specs.Runs.{region_at, ending_at}
use Rattle.psi_horizon.specs.Sample.{MeetsWithin, IsSample}
use Rattle.psi_horizon.proofs.RunsLemmas.{run-area, outcome-reached, outcome-decides, outcome-monotone, outcome-exact}

-- the one state of a region is within the capacities
pub single-within : (caps : List ℕ) (a : Area) (s : List ℕ) → IsArea caps a → single a.states ≡ Some s → IsBelow s caps
single-within caps a s is one =
    subst (λ (x : List ℕ). IsBelow x caps) (single-each a.states s is.some.0 one is.some.1) (is.within is.some.0 is.some.1)

-- so is the one with which a run ends
pub ending-within : (split : ℕ) (caps : List ℕ) (f : ℕ → List ℕ → List ℕ) (t : ℕ) (s : List ℕ) → AreClosed caps f → ending_at split f caps t ≡ Some s → IsBelow s caps
ending-within split caps f t s closed met = single-within caps (region_at split f caps t) s (run-area split caps f t closed) met

pub outcome-within : (split : ℕ) (caps : List ℕ) (f : ℕ → List ℕ → List ℕ) (limit : ℕ) (o : Outcome) → AreClosed caps f
    → IsOutcome (ending_at split f caps) limit o → MeetsWithin caps o
outcome-within split caps f limit (Met t s) closed is = ending-within split caps f t s closed is.answer
outcome-within split caps f limit (NotMet l) closed is = tt

-- the outcome of the region runs is a sample
pub sample-is : (caps : List ℕ) (functions : List (List ℕ → List ℕ)) (rates : List ℕ) (limit split : ℕ) (words : ℕ → ℕ) (o : Outcome)
    → AreClosed caps (function_at functions rates words) → IsOutcome (ending_at split (function_at functions rates words) caps) limit o
    → IsSample caps functions rates limit split words o
sample-is caps functions rates limit split words o closed least =
    let f = function_at functions rates words in
    record {
      least = least;
      reached = outcome-reached split caps f limit o closed least;
      later = outcome-decides split caps f limit o closed least;
      within = outcome-within split caps f limit o closed least;
      monotone = λ monotone. outcome-monotone split caps f limit o closed (function_at-monotone caps functions rates words monotone) least;
      small = λ few. outcome-exact split caps f limit o few least;
    }

-- A run has one outcome, and runs that agree have the same.
use Rattle.std.specs.Prelude.{◌≡◌, ℕ, suc, ◌≤◌, List, Option, Some, None, refl}
use Rattle.std.proofs.Common.{arith, ap, sym, ◌∙◌}
use Rattle.std.proofs.lemmas.Grind.{common_steps}
use Rattle.psi_state.specs.declared.Outcome.{Outcome}
use Rattle.psi_state.specs.declared.Outcome.TheVariants.{Met, NotMet}
use Rattle.psi_state.specs.Members.{In}
use Rattle.psi_state.proofs.SetsLemmas.{single-each, In-image}
use Rattle.psi_rate.specs.Composition.{AreKeeping, IsReachedFrom}
use Rattle.psi_rate.specs.Doubling.{first_answer, IsFirst, HasNone, TellsFirst}
use Rattle.psi_rate.specs.Outcomes.{meeting_from, outcome_of, outcome_within, IsOutcome}
use Rattle.psi_rate.proofs.CompositionLemmas.{reached_from-later}
use Rattle.psi_rate.proofs.DoublingLemmas.{first_answer-tells, first_answer-found, first_answer-none, is_first-agree, has_none-agree}

pub outcome_within-met : (run : ℕ → Option (List ℕ)) (limit t : ℕ) (s : List ℕ) → IsFirst run limit t s → Met t s ≡ outcome_within run limit
unfolding outcome_within
outcome_within-met run limit t s first = ap (λ found. outcome_of limit found) (sym (first_answer-found run limit t s first))

pub outcome_within-not_met : (run : ℕ → Option (List ℕ)) (limit : ℕ) → HasNone run (suc limit) → NotMet limit ≡ outcome_within run limit
unfolding outcome_within
outcome_within-not_met run limit none = ap (λ found. outcome_of limit found) (sym (first_answer-none run limit none))

-- an outcome in these words is the outcome of the run
pub outcome_within-only : (run : ℕ → Option (List ℕ)) (limit : ℕ) (o : Outcome) → IsOutcome run limit o → o ≡ outcome_within run limit
outcome_within-only run limit (Met t s) is = outcome_within-met run limit t s is
outcome_within-only run limit (NotMet l) is = ap (λ n. NotMet n) is.0 ∙ outcome_within-not_met run limit is.1

-- runs that agree from horizon 1 on have the same outcome
pub outcome-agree : (run other : ℕ → Option (List ℕ)) (limit : ℕ) (o : Outcome) → ((t : ℕ) → 1 ≤ t → run t ≡ other t) → IsOutcome run limit o → IsOutcome other limit o
outcome-agree run other limit (Met t s) agree is = is_first-agree run other limit t s agree is
outcome-agree run other limit (NotMet l) agree is = (is.0, has_none-agree run other (suc limit) agree is.1)

-- what is told of the first answer is told of the outcome
pub outcome_of-is : (run : ℕ → Option (List ℕ)) (limit : ℕ) (found : Option (ℕ × List ℕ)) → TellsFirst run limit found → IsOutcome run limit (outcome_of limit found)
outcome_of-is run limit None tells = (refl, tells)
outcome_of-is run limit (Some found) tells = tells

-- the outcome of a run is one
pub outcome_within-is : (run : ℕ → Option (List ℕ)) (limit : ℕ) → IsOutcome run limit (outcome_within run limit)
unfolding outcome_within
outcome_within-is run limit = outcome_of-is run limit (first_answer run limit) (first_answer-tells run limit)

-- where the states of a list that has all of a set have met, every state of the set that starts there or earlier is in the one that they met in
pub meeting-reached : (S : List ℕ → Type 0) (f : ℕ → List ℕ → List ℕ) (xs : List (List ℕ)) (t : ℕ) (s : List ℕ) → AreKeeping S f
    → ((x : List ℕ) → S x → In x xs) → meeting_from f xs t ≡ Some s → IsReachedFrom S f t s
meeting-reached S f xs t s keeps among met = grind (arith, common_steps, reached_from-later, single-each, In-image)

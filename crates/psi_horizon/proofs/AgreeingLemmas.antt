-- Functions that agree on the states of the capacities have the same runs and the same outcomes.
use Rattle.std.specs.Prelude.{◌≡◌, ℕ, zero, suc, ◌-◌, List, length, slice_index_or, Bool, true, false, refl}
use Rattle.std.proofs.Common.{inl, inr, ap, sym, ◌∙◌, subst, arith}
use Rattle.std.proofs.lemmas.Bool.{cases_lt}
use Rattle.std.proofs.lemmas.List.{get_or_past}
use Rattle.psi_state.specs.declared.Outcome.{Outcome}
use Rattle.psi_state.specs.State.{IsBelow}
use Rattle.psi_state.specs.Sets.{image, single}
use Rattle.psi_state.proofs.AscendingLemmas.{image-agree}
use Rattle.psi_state.specs.Hull.{hull}
use Rattle.psi_event.specs.Law.{IsClosed}
use Rattle.psi_rate.specs.Rates.{event_of}
use Rattle.psi_rate.specs.Composition.{picked, function_at, AreClosed}
use Rattle.psi_rate.specs.Outcomes.{outcome_within, IsOutcome}
use Rattle.psi_rate.proofs.OutcomesLemmas.{outcome_within-only, outcome-agree}
use Rattle.psi_region.specs.Region.{Area, start, splits, next, step, IsArea}
use Rattle.psi_region.proofs.RegionLemmas.{start-area, step-area}
use Rattle.psi_horizon.specs.Runs.{follow, ending_at}
use Rattle.psi_horizon.specs.Agreeing.{Agree, AreAlike}

-- what agrees with a function that makes states of states does so too
pub agree-closed : (caps : List ℕ) (f g : List ℕ → List ℕ) → Agree caps f g → IsClosed caps f → IsClosed caps g
agree-closed caps f g agree closed = record {
  each = λ x within. subst (λ (y : List ℕ). IsBelow y caps) (agree.each x within) (closed.each x within);
}

pub agree-back : (caps : List ℕ) (f g : List ℕ → List ℕ) → Agree caps f g → Agree caps g f
agree-back caps f g agree = record { each = λ x within. sym (agree.each x within) }

-- the events of one word agree
pub picked-agree : (caps : List ℕ) (fs gs : List (List ℕ → List ℕ)) (rates : List ℕ) (word : ℕ) → AreAlike caps fs gs
    → Agree caps (picked fs rates word) (picked gs rates word)
picked-agree caps fs gs rates word alike =
    elim (cases_lt (event_of rates word) (length fs)) [
      | inl small ↦ alike.each (event_of rates word) small
      | inr past ↦ (let same = alike.same_length in
          let first : slice_index_or fs (event_of rates word) (λ x. x) ≡ (λ x. x) = get_or_past fs (event_of rates word) (λ x. x) past in
          let second : slice_index_or gs (event_of rates word) (λ x. x) ≡ (λ x. x) = get_or_past gs (event_of rates word) (λ x. x) (omega (arith, same, past)) in
          record { each = λ x within. ap (λ (f : List ℕ → List ℕ). f x) (first ∙ sym second) })
    ]

pub function_at-agree : (caps : List ℕ) (fs gs : List (List ℕ → List ℕ)) (rates : List ℕ) (words : ℕ → ℕ) → AreAlike caps fs gs
    → (t : ℕ) → Agree caps (function_at fs rates words t) (function_at gs rates words t)
function_at-agree caps fs gs rates words alike t = picked-agree caps fs gs rates (words (t - 1)) alike

-- what agrees at each time with functions that make states of states does so too
pub alike-closed_at : (caps : List ℕ) (fs gs : List (List ℕ → List ℕ)) (rates : List ℕ) (words : ℕ → ℕ) → AreClosed caps (function_at fs rates words)
    → AreAlike caps fs gs → AreClosed caps (function_at gs rates words)
alike-closed_at caps fs gs rates words closed alike = record {
  each = λ t. agree-closed caps (function_at fs rates words t) (function_at gs rates words t) (function_at-agree caps fs gs rates words alike t) (closed.each t);
}

abbrev area_by : Bool → List (List ℕ) → Area
area_by true ys = record { is_split = true; states = ys }
area_by false ys = record { is_split = false; states = hull ys }

next-is : (b : Bool) (f : List ℕ → List ℕ) (xs : List (List ℕ)) → next b f xs ≡ area_by b (image f xs)
next-is true f xs = refl
next-is false f xs = refl

pub step-agree : (split : ℕ) (caps : List ℕ) (f g : List ℕ → List ℕ) (a : Area) → Agree caps f g → IsArea caps a → step split f a ≡ step split g a
unfolding step
step-agree split caps f g a agree is =
    next-is (splits split a) f a.states
    ∙ ap (λ (ys : List (List ℕ)). area_by (splits split a) ys) (image-agree f g a.states (λ x member. agree.each x (is.within x member)))
    ∙ sym (next-is (splits split a) g a.states)

pub follow-agree : (split : ℕ) (caps : List ℕ) (f g : ℕ → List ℕ → List ℕ) (t : ℕ) (a : Area) → AreClosed caps f → ((k : ℕ) → Agree caps (f k) (g k)) → IsArea caps a
    → follow split f t a ≡ follow split g t a
follow-agree split caps f g zero a closed agree is = refl
follow-agree split caps f g (suc t) a closed agree is =
    follow-agree split caps f g t (step split (f (suc t)) a) closed agree (step-area split caps (f (suc t)) a (closed.each (suc t)) is)
    ∙ ap (λ (b : Area). follow split g t b) (step-agree split caps (f (suc t)) (g (suc t)) a (agree (suc t)) is)

pub ending_at-agree : (split : ℕ) (caps : List ℕ) (f g : ℕ → List ℕ → List ℕ) → AreClosed caps f → ((k : ℕ) → Agree caps (f k) (g k))
    → (t : ℕ) → ending_at split f caps t ≡ ending_at split g caps t
ending_at-agree split caps f g closed agree t =
    ap (λ (a : Area). single a.states) (follow-agree split caps f g t (start caps) closed agree (start-area caps))

-- so they have the same outcome
pub outcome_within-agree : (split : ℕ) (caps : List ℕ) (f g : ℕ → List ℕ → List ℕ) (limit : ℕ) (o : Outcome) → AreClosed caps f → ((k : ℕ) → Agree caps (f k) (g k))
    → IsOutcome (ending_at split f caps) limit o → o ≡ outcome_within (ending_at split g caps) limit
outcome_within-agree split caps f g limit o closed agree is =
    outcome_within-only (ending_at split g caps) limit o
    (outcome-agree (ending_at split f caps) (ending_at split g caps) limit o (λ t some. ending_at-agree split caps f g closed agree t) is)

-- A run that ends with one state makes each longer run end with it, so halving finds the least one.
use Rattle.std.specs.Prelude.{◌≡◌, ℕ, zero, suc, ◌/◌, ◌^◌, ◌≤◌, List, true, false, Option, Some, None, refl}
use Rattle.std.specs.Option.{is_some}
use Rattle.std.proofs.Common.{ap, sym, ◌∙◌, subst, arith}
use Rattle.std.proofs.lemmas.Bool.{true≢false, false≢true}
use Rattle.psi_state.specs.declared.Outcome.TheVariants.{NotMet}
use Rattle.psi_state.specs.Sets.{single}
use Rattle.psi_rate.specs.Composition.{AreClosed}
use Rattle.psi_rate.specs.Doubling.{HasNone, IsFirst}
use Rattle.psi_rate.specs.Least.{least_answer, HasNoneBelow, IsLeast, TellsLeast}
use Rattle.psi_rate.proofs.LeastLemmas.{has_none_below-one, least_answer-found, least_answer-none, least_answer-tells}
use Rattle.psi_rate.proofs.PowersLemmas.{pow-double, pow-order}
use Rattle.psi_horizon.specs.Runs.{ending_at, DecidesRuns}
use Rattle.psi_horizon.proofs.RunsLemmas.{met-later}
use Rattle.psi_couple.proofs.OptionLemmas.{none-without}
use Rattle.psi_couple.specs.declared.answers.Coupled.{Coupled}
use Rattle.psi_couple.specs.declared.answers.Coupled.TheVariants.{At, NotAt}
use Rattle.psi_couple.specs.Coupling.{coupled_of, coupled_within, IsCoupled, DecidesCoupled}

-- a run that ends with one state makes each longer run end with it
pub ending-later : (split : ℕ) (caps : List ℕ) (f : ℕ → List ℕ → List ℕ) (t later : ℕ) (s : List ℕ) → AreClosed caps f → t ≤ later
    → ending_at split f caps t ≡ Some s → ending_at split f caps later ≡ Some s
ending-later split caps f t later s closed order met =
    ap (λ (xs : List (List ℕ)). single xs) (met-later split caps f t later s closed order met)

-- so where a run doesn't, none of the shorter ones does
pub ending-none_below : (split : ℕ) (caps : List ℕ) (f : ℕ → List ℕ → List ℕ) (t : ℕ) → AreClosed caps f → ending_at split f caps t ≡ None
    → HasNoneBelow (ending_at split f caps) (suc t)
ending-none_below split caps f t closed none = record {
  each = λ k some small. none-without (ending_at split f caps k) (λ s met.
      (let later : ending_at split f caps t ≡ Some s = ending-later split caps f k t s closed (omega arith) met in absurd cc));
}

-- the state with which it ends is the one with which the longer run does
pub ending-same : (split : ℕ) (caps : List ℕ) (f : ℕ → List ℕ → List ℕ) (t later : ℕ) (a s : List ℕ) → AreClosed caps f → t ≤ later
    → ending_at split f caps t ≡ Some a → ending_at split f caps later ≡ Some s → ending_at split f caps t ≡ Some s
ending-same split caps f t later a s closed order first second =
    let carried : ending_at split f caps later ≡ Some a = ending-later split caps f t later a closed order first in
    let same : a ≡ s = cc in
    first ∙ ap (λ (x : List ℕ). Some x) same

-- so a search needs only to know whether a run ends with one state: if so, it is this one
pub ending-found : (split : ℕ) (caps : List ℕ) (f : ℕ → List ℕ → List ℕ) (t later : ℕ) (s : List ℕ) (o : Option (List ℕ)) → AreClosed caps f → t ≤ later
    → o ≡ ending_at split f caps t → is_some o ≡ true → ending_at split f caps later ≡ Some s → ending_at split f caps t ≡ Some s
ending-found split caps f t later s None closed order is some longer = absurd (false≢true some)
ending-found split caps f t later s (Some a) closed order is some longer = ending-same split caps f t later a s closed order (sym is) longer

-- and if not, no horizon up to this one has any
pub ending-missed : (split : ℕ) (caps : List ℕ) (f : ℕ → List ℕ → List ℕ) (t : ℕ) (o : Option (List ℕ)) → AreClosed caps f
    → o ≡ ending_at split f caps t → is_some o ≡ false → HasNoneBelow (ending_at split f caps) (suc t)
ending-missed split caps f t None closed is none = ending-none_below split caps f t closed (sym is)
ending-missed split caps f t (Some a) closed is none = absurd (true≢false none)

-- a first horizon is within the greatest
pub first-within : {A : Type 0} (run : ℕ → Option A) (limit t : ℕ) (a : A) → IsFirst run limit t a → t ≤ 2 ^ limit
first-within run limit t a first =
    let order = pow-order first.exponent limit first.within in let power = first.power in omega arith

-- where no lower power of two has an answer, no horizon up to half of this one has
none_below-half_power : (split : ℕ) (caps : List ℕ) (f : ℕ → List ℕ → List ℕ) (exponent t : ℕ) → AreClosed caps f → t ≡ 2 ^ exponent
    → HasNone (ending_at split f caps) exponent → HasNoneBelow (ending_at split f caps) (suc (t / 2))
none_below-half_power split caps f zero t closed power earlier =
    let e : 1 ≡ suc (t / 2) = omega arith in
    subst (λ n. HasNoneBelow (ending_at split f caps) n) e (has_none_below-one (ending_at split f caps))
none_below-half_power split caps f (suc k) t closed power earlier =
    let double = pow-double k in
    let e : 2 ^ k ≡ t / 2 = omega arith in
    ending-none_below split caps f (t / 2) closed (ap (λ n. ending_at split f caps n) (sym e) ∙ earlier.each k (omega arith))

pub none_below-half : (split : ℕ) (caps : List ℕ) (f : ℕ → List ℕ → List ℕ) (limit t : ℕ) (s : List ℕ) → AreClosed caps f
    → IsFirst (ending_at split f caps) limit t s → HasNoneBelow (ending_at split f caps) (suc (t / 2))
none_below-half split caps f limit t s closed first = none_below-half_power split caps f first.exponent t closed first.power first.earlier

pub coupled_within-at : (run : ℕ → Option (List ℕ)) (limit t : ℕ) (s : List ℕ) → IsLeast run (2 ^ limit) t s → At t s ≡ coupled_within run limit
unfolding coupled_within
coupled_within-at run limit t s least = ap (λ found. coupled_of limit found) (sym (least_answer-found run (2 ^ limit) t s least))

pub coupled_within-none : (run : ℕ → Option (List ℕ)) (limit : ℕ) → HasNoneBelow run (suc (2 ^ limit)) → NotAt limit ≡ coupled_within run limit
unfolding coupled_within
coupled_within-none run limit none = ap (λ found. coupled_of limit found) (sym (least_answer-none run (2 ^ limit) none))

-- a coupling in these words is the least coupling of the run
pub coupled_within-only : (run : ℕ → Option (List ℕ)) (limit : ℕ) (c : Coupled) → IsCoupled run limit c → c ≡ coupled_within run limit
coupled_within-only run limit (At t s) is = coupled_within-at run limit t s is
coupled_within-only run limit (NotAt l) is = ap (λ n. NotAt n) is.0 ∙ coupled_within-none run limit is.1

-- and the least coupling of a run is one in these words
coupled_of-is : (run : ℕ → Option (List ℕ)) (limit : ℕ) (found : Option (ℕ × List ℕ)) → TellsLeast run (2 ^ limit) found → IsCoupled run limit (coupled_of limit found)
coupled_of-is run limit None tells = (refl, tells)
coupled_of-is run limit (Some found) tells = tells

pub coupled_within-is : (run : ℕ → Option (List ℕ)) (limit : ℕ) → IsCoupled run limit (coupled_within run limit)
unfolding coupled_within
coupled_within-is run limit = coupled_of-is run limit (least_answer run (2 ^ limit)) (least_answer-tells run (2 ^ limit))

-- where a sample isn't met, there is no coupling
pub none_below-not_met : (split : ℕ) (caps : List ℕ) (f : ℕ → List ℕ → List ℕ) (limit l : ℕ) → DecidesRuns split f caps limit (NotMet l)
    → HasNoneBelow (ending_at split f caps) (suc (2 ^ limit))
none_below-not_met split caps f limit l decides = record { each = λ k some small. decides k (omega arith) }

-- what a coupling says of the runs of all horizons
pub coupled-decides : (split : ℕ) (caps : List ℕ) (f : ℕ → List ℕ → List ℕ) (limit : ℕ) (c : Coupled) → AreClosed caps f
    → IsCoupled (ending_at split f caps) limit c → DecidesCoupled split f caps limit c
coupled-decides split caps f limit (At t s) closed is = λ later order. met-later split caps f t later s closed order is.answer
coupled-decides split caps f limit (NotAt l) closed is = λ t order.
    none-without (ending_at split f caps t) (λ s met.
    (let found : ending_at split f caps (2 ^ limit) ≡ Some s = ending-later split caps f t (2 ^ limit) s closed order met in
    let some : 1 ≤ 2 ^ limit = pow-order 0 limit (omega arith) in
    let none : ending_at split f caps (2 ^ limit) ≡ None = is.1.each (2 ^ limit) some (omega arith) in
    absurd cc))

-- The first value of a past: how it agrees with the sample, and its law.
use Rattle.std.specs.Prelude.{◌≡◌, ℕ, ℤ, ◌+◌, ◌*◌, ◌^◌, ◌<◌, ◌≤◌, List, Some, refl}
use Rattle.std.specs.Ordering.{int_eq}
use Rattle.std.proofs.Common.{inl, inr, ap, sym, ◌∙◌, arith}
use Rattle.std.proofs.lemmas.Bool.{cases_lt}
use Rattle.std.proofs.lemmas.Grind.{common_steps}
use Rattle.psi_state.specs.declared.Outcome.{Outcome}
use Rattle.psi_state.specs.declared.Outcome.TheVariants.{Met, NotMet}
use Rattle.psi_state.specs.State.{IsBelow}
use Rattle.psi_rate.specs.Composition.{Functions, AreClosed}
use Rattle.psi_rate.specs.Outcomes.{IsOutcome}
use Rattle.psi_rate.proofs.PowersLemmas.{pow-order}
use Rattle.psi_horizon.specs.Runs.{ending_at}
use Rattle.psi_horizon.proofs.RunsLemmas.{ending-reached}
use Rattle.psi_couple.specs.declared.answers.Valued.{Valued}
use Rattle.psi_couple.specs.declared.answers.Valued.TheVariants.{At, NotAt}
use Rattle.psi_couple.specs.Valuing.{value_at, IsValued}
use Rattle.psi_couple.proofs.ValuingLemmas.{value-reached}
use Rattle.psi_law.specs.Counting.{Words}
use Rattle.psi_law.specs.Wheel.{word_count}
use Rattle.psi_law.specs.Chains.{Chain, IsChain, end_of, whole, weighted}
use Rattle.psi_law.specs.Values.{is_value, is_unvalued, weight_valued, BalanceIsValueLaw, ReachesValue, AgreesValued}
use Rattle.psi_law.proofs.SumsLemmas.{one_if, at_most_one, sum_pasts-is, sum_by-filter}
use Rattle.psi_law.proofs.BalanceLemmas.{weighted-is}
use Rattle.psi_law.proofs.LawLemmas.{runs-steady, sums-between}

-- ---- agreement with the sample

-- the states of a region of one state have its value
one-valued : (value : List ℕ → ℤ) (split : ℕ) (caps : List ℕ) (f : Functions) (t : ℕ) (s : List ℕ) → ending_at split f caps t ≡ Some s → value_at value split f caps t ≡ Some (value s)
one-valued value split caps f t s met = grind (arith, common_steps)

exponent-under : (a b t h : ℕ) → t ≡ 2 ^ a → h ≡ 2 ^ b → t < h → a < b
exponent-under a b t h first second less = grind (arith, common_steps, pow-order)

-- the value is that of the sample's state, and is there no later
pub value-agrees : (value : List ℕ → ℤ) (split : ℕ) (caps : List ℕ) (f : Functions) (limit : ℕ) (v : Valued) (o : Outcome) (z : List ℕ) → IsBelow z caps → AreClosed caps f
    → IsValued (value_at value split f caps) limit v → IsOutcome (ending_at split f caps) limit o → AgreesValued value v o
value-agrees value split caps f limit (At h w) (Met t s) z below closed first met = (
  (let valued = value-reached value split caps f h w closed first.answer in
      let reached = ending-reached split caps f t s closed met.answer in
      let late : ℕ = h + t in
      sym (valued.each z late below (omega arith)) ∙ ap value (reached.each z late below (omega arith))),
  elim (cases_lt t h) [
    | inl less ↦
        (let own = one-valued value split caps f t s met.answer in
        let below_exponent : met.exponent < first.exponent = exponent-under met.exponent first.exponent t h met.power first.power less in
        let none = first.earlier.each met.exponent below_exponent in
        let missed = ap (value_at value split f caps) met.power ∙ none in absurd cc)
    | inr enough ↦ enough
  ],
)
value-agrees value split caps f limit (NotAt l) (Met t s) z below closed none met = grind (arith, common_steps)
value-agrees value split caps f limit (At h w) (NotMet l) z below closed first met = tt
value-agrees value split caps f limit (NotAt m) (NotMet l) z below closed first met = tt

-- ---- the law

-- a value is the one that it is of a state z only where z has it, and where there is a value, it is that of z
value-near : (o : Valued) (u v : ℤ) → ((t : ℕ) (w : ℤ) → o ≡ At t w → u ≡ w)
    → (one_if (is_value v o) ≤ one_if (int_eq u v)) × (one_if (int_eq u v) ≤ one_if (is_value v o) + one_if (is_unvalued o))
value-near (At t w) u v at = rw (at t w refl) (omega arith, omega arith)
value-near (NotAt l) u v at = (omega arith, at_most_one (int_eq u v))

pub value-law : (chain : Chain) (value : List ℕ → ℤ) (answer : Words → Valued) (n : ℕ) → IsChain chain → ReachesValue answer n chain value → BalanceIsValueLaw answer n chain value
value-law chain value answer n is reaches = λ weight balanced.
    (let pasts = sum_pasts-is word_count n in
    let steady = runs-steady chain weight n is balanced in
    let ends : ℤ → List ℕ → ℕ = λ v z. one_if (int_eq (value z) v) in
    let valued : ℤ → Words → ℕ = λ v past. one_if (is_value v (answer past)) in
    let unvalued_at : Words → ℕ = λ past. one_if (is_unvalued (answer past)) in
    let none = ap (λ (k : ℕ). k * word_count ^ n) (weighted-is chain weight).none in
    let none-summed = ap (λ (k : ℕ). whole chain weight * k) pasts.none in
    let part : (v : ℤ) → weight_valued chain weight value v * word_count ^ n ≡ weighted chain weight (ends v) * word_count ^ n =
    λ v. ap (λ k. k * word_count ^ n) (sum_by-filter (λ x. int_eq (value x) v) weight chain.states) in
    record {
      least = λ v.
          (let e = part v in
          let under = sums-between chain weight n (λ past x. end_of chain past n x) steady (valued v) (λ past. 0) (ends v) (λ x. 0)
          (λ past x own. (let order = (value-near (answer past) (value (end_of chain past n x)) v (reaches.each past x own)).0 in omega arith)) in
          omega arith);
      most = λ v.
          (let e = part v in
          let both = ap (λ (k : ℕ). whole chain weight * k) (pasts.more (valued v) unvalued_at) in
          let over = sums-between chain weight n (λ past x. end_of chain past n x) steady (λ past. 0) (λ past. valued v past + unvalued_at past) (λ x. 0) (ends v)
          (λ past x own. (let order = (value-near (answer past) (value (end_of chain past n x)) v (reaches.each past x own)).1 in omega arith)) in
          omega arith);
    })

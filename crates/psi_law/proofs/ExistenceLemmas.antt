-- Every finite chain has a stationary distribution.
use Rattle.std.specs.Prelude.{◌≡◌, ℕ, ◌*◌, ◌<◌, List, [], ◌∷◌, length, slice_index, refl}
use Rattle.std.specs.List.{sum_by}
use Rattle.std.proofs.Common.{ap, sym, ◌∙◌, arith}
use Rattle.std.proofs.lemmas.Grind.{common_steps}
use Rattle.psi_state.specs.Members.{In}
use Rattle.psi_state.specs.Ascending.{IsDistinct}
use Rattle.psi_rate.specs.Rates.{total}
use Rattle.psi_law.specs.Counting.{sum_below}
use Rattle.psi_law.specs.Chains.{Chain, IsFinite, IsStationaryDistribution}
use Rattle.psi_law.specs.Elimination.{Matrix, outflow, eliminated, rate_between, stationary_weight}
use Rattle.psi_law.proofs.SumsLemmas.{sum-same, sum_below-is, sum_by-same, sum_below-first}
use Rattle.psi_law.proofs.BalanceLemmas.{dealt-between, flow-inflow}
use Rattle.psi_law.proofs.EliminationLemmas.{eliminated-balances, eliminated-some}

-- the sum of the rates by their places
rates-sum : (rates : List ℕ) → sum_below (length rates) (λ e. slice_index rates e) ≡ total rates
unfolding sum_below
rates-sum [] = refl
rates-sum (rate ∷ rates) = grind (arith, common_steps, sum_below-first, (rates-sum rates))

-- the outflow of each state is the sum of all rates, since each function leads it to one of the states
outflow-total : (chain : Chain) (y : List ℕ) → IsFinite chain → In y chain.states → outflow chain.states (rate_between chain) y ≡ total chain.rates
outflow-total chain y is member =
    let n = length chain.rates in
    sum_by-same chain.states (λ z. rate_between chain y z) (λ z. 1 * rate_between chain y z) (λ z own. omega arith)
    ∙ (sym (dealt-between chain is y (λ z. 1) member)
    ∙ (sum-same (sum_below n) (sum_below-is n) (λ e. slice_index chain.rates e * 1) (λ e. slice_index chain.rates e) (λ e. omega arith) ∙ rates-sum chain.rates))

some-weight : (xs : List (List ℕ)) (x : List ℕ) (q : Matrix) → In x xs → IsDistinct xs → 0 < sum_by (eliminated xs q) xs
some-weight [] x q member distinct = absurd member
some-weight (a ∷ rest) x q member distinct = eliminated-some a rest q distinct

pub elimination-stationary : (chain : Chain) → IsFinite chain → IsStationaryDistribution chain (stationary_weight chain)
elimination-stationary chain is =
    let weight = stationary_weight chain in
    let balances = eliminated-balances chain.states (rate_between chain) is.distinct in
    record {
      balanced = record {
        each = λ y member.
            flow-inflow chain weight y
            ∙ (balances.each y member
            ∙ (ap (λ n. weight y * n) (outflow-total chain y is member)
            ∙ omega arith));
      };
      some = some-weight chain.states is.some.0 (rate_between chain) is.some.1 is.distinct;
    }

-- Weights that balance are stationary: words lead as much weight to each state as it has.
use Rattle.std.specs.Prelude.{◌≡◌, ℕ, zero, suc, ◌+◌, ◌-◌, ◌*◌, ◌^◌, ◌≤◌, List, length, slice_index}
use Rattle.std.specs.List.{sum_by}
use Rattle.std.proofs.Common.{ap, sym, ◌∙◌, arith}
use Rattle.std.proofs.Math.Nat.{pow-zero, pow-succ', mul-le-mul_left}
use Rattle.std.proofs.lemmas.Grind.{common_steps}
use Rattle.psi_state.proofs.StatesLemmas.{same-from_eq}
use Rattle.psi_rate.specs.Rates.{total, least_power}
use Rattle.psi_rate.specs.Composition.{picked}
use Rattle.psi_rate.proofs.PowersLemmas.{least_power-is}
use Rattle.psi_law.specs.Counting.{sum_below, after, sum_pasts}
use Rattle.psi_law.specs.Wheel.{word_count}
use Rattle.psi_law.specs.Chains.{Chain, IsFinite, IsChain, function_of, is_same, end_of, whole, weighted, weight_to, flow_to, IsBalanced, IsStationary}
use Rattle.psi_law.specs.Elimination.{inflow, rate_between}
use Rattle.psi_law.proofs.SumsLemmas.{one_if, IsSum, sum-same, sum-times, sum_below-is, sum_by-is, sum_pasts-is, sum_by-swap, sum_by-same, sum_by-order, sum_by-out, sum_by-filter, sum_by-at}
use Rattle.psi_law.proofs.WheelLemmas.{share, sum-words}
use Rattle.psi_law.proofs.ChainLemmas.{Own, is_same-itself, function_of-idle, function_of-keeps, end_of-first}

-- the sum over the states by their weights is a way to sum
pub weighted-is : (chain : Chain) (weight : List ℕ → ℕ) → IsSum (weighted chain weight)
weighted-is chain weight = (let over = sum_by-is chain.states in record {
  none = sum-same (λ (g : List ℕ → ℕ). sum_by g chain.states) over (λ x. weight x * 0) (λ x. 0) (λ x. omega arith) ∙ over.none;
  more = λ g h. sum-same (λ (k : List ℕ → ℕ). sum_by k chain.states) over (λ x. weight x * (g x + h x)) (λ x. weight x * g x + weight x * h x) (λ x. omega arith)
      ∙ over.more (λ x. weight x * g x) (λ x. weight x * h x);
  order = λ g h each. over.order (λ x. weight x * g x) (λ x. weight x * h x) (λ x. mul-le-mul_left (weight x) (each x));
})

pub weighted-same : (chain : Chain) (weight g h : List ℕ → ℕ) → ((x : List ℕ) → Own chain x → g x ≡ h x) → weighted chain weight g ≡ weighted chain weight h
weighted-same chain weight g h same = grind (arith, common_steps, sum_by-same)

pub weighted-order : (chain : Chain) (weight g h : List ℕ → ℕ) → ((x : List ℕ) → Own chain x → g x ≤ h x) → weighted chain weight g ≤ weighted chain weight h
weighted-order chain weight g h order = sum_by-order chain.states (λ x. weight x * g x) (λ x. weight x * h x) (λ x own. mul-le-mul_left (weight x) (order x own))

pub weighted-constant : (chain : Chain) (weight : List ℕ → ℕ) (c : ℕ) → weighted chain weight (λ x. c) ≡ whole chain weight * c
weighted-constant chain weight c = sum_by-out chain.states weight c

-- a value that is at least or at most a number at each state is so by the weights
pub under-weighted : (chain : Chain) (weight g : List ℕ → ℕ) (c : ℕ) → ((x : List ℕ) → Own chain x → c ≤ g x) → whole chain weight * c ≤ weighted chain weight g
under-weighted chain weight g c under = (let constant = weighted-constant chain weight c in let order = weighted-order chain weight (λ x. c) g under in omega arith)

pub over-weighted : (chain : Chain) (weight g : List ℕ → ℕ) (c : ℕ) → ((x : List ℕ) → Own chain x → g x ≤ c) → weighted chain weight g ≤ whole chain weight * c
over-weighted chain weight g c over = (let constant = weighted-constant chain weight c in let order = weighted-order chain weight g (λ x. c) over in omega arith)

-- it goes past any other sum
pub weighted-swap : {A : Type 0} (sum : (A → ℕ) → ℕ) → IsSum sum → (chain : Chain) (weight : List ℕ → ℕ) (g : List ℕ → A → ℕ)
    → weighted chain weight (λ x. sum (λ a. g x a)) ≡ sum (λ a. weighted chain weight (λ x. g x a))
weighted-swap sum is chain weight g =
    sum_by-same chain.states (λ x. weight x * sum (λ a. g x a)) (λ x. sum (λ a. weight x * g x a)) (λ x member. sym (sum-times sum is (weight x) (λ a. g x a)))
    ∙ sum_by-swap sum is chain.states (λ x a. weight x * g x a)

-- the sum over the events, by their rates, of what is told of the state that they lead a state to, by the rates between states
pub dealt-between : (chain : Chain) → IsFinite chain → (x : List ℕ) (h : List ℕ → ℕ) → Own chain x
    → sum_below (length chain.rates) (λ e. slice_index chain.rates e * h (function_of chain e x)) ≡ sum_by (λ y. h y * rate_between chain x y) chain.states
dealt-between chain is x h own =
    let n = length chain.rates in
    let rate : ℕ → ℕ = λ e. slice_index chain.rates e in
    let leads : ℕ → List ℕ → ℕ = λ e y. one_if (is_same (function_of chain e x) y) in
    let below = sum_below-is n in
    sum-same (sum_below n) below (λ e. rate e * h (function_of chain e x)) (λ e. sum_by (λ y. rate e * h y * leads e y) chain.states)
    (λ e. (let z = function_of chain e x in
    sym (sum_by-at chain.states (λ y. is_same z y) z (λ y. rate e * h y) (is_same-itself z) (λ y so. sym (same-from_eq z y so)) is.distinct ((function_of-keeps chain e is).each x own))))
    ∙ (sym (sum_by-swap (sum_below n) below chain.states (λ y e. rate e * h y * leads e y))
    ∙ sum_by-same chain.states (λ y. sum_below n (λ e. rate e * h y * leads e y)) (λ y. h y * rate_between chain x y)
    (λ y member. sum-same (sum_below n) below (λ e. rate e * h y * leads e y) (λ e. h y * (rate e * leads e y)) (λ e. omega arith) ∙ sum-times (sum_below n) below (h y) (λ e. rate e * leads e y)))

-- the weight that the events lead to a state is its inflow by the rates between states
pub flow-inflow : (chain : Chain) (weight : List ℕ → ℕ) (y : List ℕ) → flow_to chain weight y ≡ inflow chain.states (rate_between chain) weight y
flow-inflow chain weight y =
    let n = length chain.rates in
    let rate : ℕ → ℕ = λ e. slice_index chain.rates e in
    let leads : ℕ → List ℕ → ℕ = λ e x. one_if (is_same (function_of chain e x) y) in
    let below = sum_below-is n in
    sum-same (sum_below n) below (λ e. rate e * weight_to chain weight (function_of chain e) y) (λ e. sum_by (λ x. weight x * (rate e * leads e x)) chain.states)
    (λ e. ap (λ k. rate e * k) (sum_by-filter (λ x. is_same (function_of chain e x) y) weight chain.states)
    ∙ (sym (sum-times (λ (g : List ℕ → ℕ). sum_by g chain.states) (sum_by-is chain.states) (rate e) (λ x. weight x * leads e x))
    ∙ sum_by-same chain.states (λ x. rate e * (weight x * leads e x)) (λ x. weight x * (rate e * leads e x)) (λ x member. omega arith)))
    ∙ (sym (sum_by-swap (sum_below n) below chain.states (λ x e. weight x * (rate e * leads e x)))
    ∙ sum_by-same chain.states (λ x. sum_below n (λ e. weight x * (rate e * leads e x))) (λ x. weight x * rate_between chain x y)
    (λ x member. sum-times (sum_below n) below (weight x) (λ e. rate e * leads e x)))

-- a chain whose states have weights
module _ (chain : Chain) (weight : List ℕ → ℕ) (is : IsChain chain) where
  -- the sum over the events is the sum of all rates as often, where the weights balance
  weighted-rates : (h : List ℕ → ℕ) → IsBalanced chain weight
      → weighted chain weight (λ x. sum_below (length chain.rates) (λ e. slice_index chain.rates e * h (function_of chain e x)))
      ≡ total chain.rates * weighted chain weight h
  weighted-rates h balanced =
      let over = sum_by-is chain.states in
      weighted-same chain weight (λ x. sum_below (length chain.rates) (λ e. slice_index chain.rates e * h (function_of chain e x))) (λ x. sum_by (λ y. h y * rate_between chain x y) chain.states)
      (λ x own. dealt-between chain is.finite x h own)
      ∙ (weighted-swap (λ (g : List ℕ → ℕ). sum_by g chain.states) over chain weight (λ x y. h y * rate_between chain x y)
      ∙ (sum_by-same chain.states (λ y. weighted chain weight (λ x. h y * rate_between chain x y)) (λ y. total chain.rates * (weight y * h y))
      (λ y member. sum-times (weighted chain weight) (weighted-is chain weight) (h y) (λ x. rate_between chain x y)
      ∙ (ap (λ k. h y * k) (sym (flow-inflow chain weight y) ∙ balanced.each y member) ∙ omega arith))
      ∙ sum-times (λ (g : List ℕ → ℕ). sum_by g chain.states) over (total chain.rates) (λ y. weight y * h y)))

  -- the sum over all words of what is told of the state that a word leads to
  pub weighted-words : (h : List ℕ → ℕ) → IsBalanced chain weight
      → weighted chain weight (λ x. sum_below word_count (λ word. h (picked chain.functions chain.rates word x))) ≡ word_count * weighted chain weight h
  weighted-words h balanced =
      let n = length chain.rates in
      let m = least_power (total chain.rates) in
      let q = share chain.rates is.rated in
      let idle = m - total chain.rates in
      let all = weighted chain weight h in
      let way = weighted-is chain weight in
      let dealt : List ℕ → ℕ = λ x. sum_below n (λ e. slice_index chain.rates e * h (function_of chain e x)) in
      let each = weighted-same chain weight (λ x. sum_below word_count (λ word. h (picked chain.functions chain.rates word x))) (λ x. q.0 * (dealt x + idle * h x))
      (λ x member. sum-words chain.rates q.0 (λ e. h (function_of chain e x)) q.1
      ∙ ap (λ (f : List ℕ → List ℕ). q.0 * (dealt x + idle * h (f x))) (function_of-idle chain is)) in
      let out = sum-times (weighted chain weight) way q.0 (λ x. dealt x + idle * h x) in
      let more = way.more dealt (λ x. idle * h x) in
      let rest = sum-times (weighted chain weight) way idle h in
      let rated = weighted-rates h balanced in
      let enough = (least_power-is (total chain.rates)).enough in
      let parts : total chain.rates * all + idle * all ≡ m * all =
      (let e : total chain.rates + idle ≡ m = omega arith in let p : (total chain.rates + idle) * all ≡ m * all = ap (λ k. k * all) e in omega arith) in
      let inner : weighted chain weight (λ x. dealt x + idle * h x) ≡ m * all = omega arith in
      let whole : word_count * all ≡ q.0 * m * all = ap (λ k. k * all) q.1.whole in
      each ∙ (out ∙ (ap (λ k. q.0 * k) inner ∙ omega arith))

  -- and over all pasts of n words
  pub weighted-pasts : (n : ℕ) (h : List ℕ → ℕ) → IsBalanced chain weight
      → weighted chain weight (λ x. sum_pasts word_count n (λ past. h (end_of chain past n x))) ≡ word_count ^ n * weighted chain weight h
  weighted-pasts zero h balanced = (let e : word_count ^ 0 * weighted chain weight h ≡ 1 * weighted chain weight h = ap (λ k. k * weighted chain weight h) (pow-zero word_count) in omega arith)
  weighted-pasts (suc n) h balanced =
      let below = sum_below-is word_count in
      let pasts = sum_pasts-is word_count n in
      let all = weighted chain weight h in
      let one : ℕ → List ℕ → List ℕ = λ word x. picked chain.functions chain.rates word x in
      let e : word_count ^ suc n * all ≡ word_count * word_count ^ n * all = ap (λ k. k * all) (pow-succ' word_count n) in
      weighted-same chain weight (λ x. sum_pasts word_count (suc n) (λ past. h (end_of chain past (suc n) x)))
      (λ x. sum_below word_count (λ word. sum_pasts word_count n (λ past. h (one word (end_of chain past n x)))))
      (λ x member. sum-same (sum_below word_count) below (λ word. sum_pasts word_count n (λ past. h (end_of chain (after word past) (suc n) x)))
      (λ word. sum_pasts word_count n (λ past. h (one word (end_of chain past n x))))
      (λ word. sum-same (sum_pasts word_count n) pasts (λ past. h (end_of chain (after word past) (suc n) x)) (λ past. h (one word (end_of chain past n x)))
      (λ past. ap h (end_of-first chain (after word past) n x))))
      ∙ (weighted-swap (sum_below word_count) below chain weight (λ x word. sum_pasts word_count n (λ past. h (one word (end_of chain past n x))))
      ∙ (sum-same (sum_below word_count) below (λ word. weighted chain weight (λ x. sum_pasts word_count n (λ past. h (one word (end_of chain past n x)))))
      (λ word. word_count ^ n * weighted chain weight (λ x. h (one word x)))
      (λ word. weighted-pasts n (λ z. h (one word z)) balanced)
      ∙ (sum-times (sum_below word_count) below (word_count ^ n) (λ word. weighted chain weight (λ x. h (one word x)))
      ∙ (ap (λ k. word_count ^ n * k) (sym (weighted-swap (sum_below word_count) below chain weight (λ x word. h (one word x))) ∙ weighted-words h balanced)
      ∙ omega arith))))

  pub balanced-stationary : IsBalanced chain weight → IsStationary chain weight
  balanced-stationary balanced = record {
    each = λ n y member.
        weighted-pasts n (λ z. one_if (is_same z y)) balanced
        ∙ (ap (λ k. word_count ^ n * k) (sum_by-at chain.states (λ x. is_same x y) y weight (is_same-itself y) (λ x so. same-from_eq x y so) is.finite.distinct member)
        ∙ omega arith);
  }

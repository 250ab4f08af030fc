-- A chain mixes as it couples: pasts that bring all states together lead from each start where they lead from a stationary one.
use Rattle.std.specs.Prelude.{◌≡◌, ℕ, ◌+◌, ◌*◌, ◌^◌, ◌≤◌, List, Option, Some, None, is_none, refl}
use Rattle.std.specs.List.{sum_by}
use Rattle.std.proofs.Common.{ap, sym, ◌∙◌, arith}
use Rattle.std.proofs.Math.Nat.{mul-le-mul_left}
use Rattle.psi_state.specs.Sets.{image, single}
use Rattle.psi_state.proofs.StatesLemmas.{same-from_eq}
use Rattle.psi_state.proofs.SetsLemmas.{single-each, In-image}
use Rattle.psi_law.specs.Counting.{Words, distance, sum_pasts}
use Rattle.psi_law.specs.Wheel.{word_count}
use Rattle.psi_law.specs.Chains.{Chain, IsChain, is_same, end_of, whole, weighted, pasts_between, IsBalanced}
use Rattle.psi_law.specs.Samples.{are_apart, apart}
use Rattle.psi_law.specs.Statements.{MixesAsCoupled}
use Rattle.psi_law.proofs.SumsLemmas.{one_if, sum-same, sum-times, sum_pasts-is, sum_by-is, sum_by-swap, sum_by-order, sum_by-out, sum_by-at}
use Rattle.psi_law.proofs.ChainLemmas.{Own, is_same-itself, end_of-keeps}
use Rattle.psi_law.proofs.BalanceLemmas.{weighted-is, weighted-same, weighted-swap, under-weighted, balanced-stationary}

-- where two runs end in one state unless states are apart, one of them ends in y only if the other does, or if states are apart
ends-alike : (u v y : List ℕ) (o : Option (List ℕ)) → ((s : List ℕ) → o ≡ Some s → u ≡ v) → one_if (is_same u y) ≤ one_if (is_same v y) + one_if (is_none o) * one_if (is_same u y)
ends-alike u v y None same = omega arith
ends-alike u v y (Some s) same = (let e = ap (λ (x : List ℕ). one_if (is_same x y)) (same s refl) in omega arith)

-- a number between two others but for what each of these may lack
distance-most : (a b c d : ℕ) → a ≤ b + c → b ≤ a + d → distance a b ≤ c + d
distance-most a b c d over under = omega arith

module _ (chain : Chain) (is : IsChain chain) (n : ℕ) where
  -- how many pasts lead from x to y and leave states apart
  abbrev apart_between : List ℕ → List ℕ → ℕ
  apart_between x y = sum_pasts word_count n (λ past. one_if (are_apart chain n past) * one_if (is_same (end_of chain past n x) y))

  between-under : (x z y : List ℕ) → Own chain x → Own chain z → pasts_between chain n x y ≤ pasts_between chain n z y + apart_between x y
  between-under x z y first second =
      let pasts = sum_pasts-is word_count n in
      let ends : List ℕ → Words → ℕ = λ u past. one_if (is_same (end_of chain past n u) y) in
      let torn : Words → ℕ = λ past. one_if (are_apart chain n past) * ends x past in
      let order = pasts.order (ends x) (λ past. ends z past + torn past)
      (λ past. (let image_of = image (end_of chain past n) chain.states in
      ends-alike (end_of chain past n x) (end_of chain past n z) y (single image_of)
      (λ s met. single-each image_of s (end_of chain past n x) met (In-image (end_of chain past n) x chain.states first)
      ∙ sym (single-each image_of s (end_of chain past n z) met (In-image (end_of chain past n) z chain.states second))))) in
      let both = pasts.more (ends z) torn in omega arith

  -- each past that leaves states apart leads x to one state
  apart_between-sum : (x : List ℕ) → Own chain x → sum_by (λ y. apart_between x y) chain.states ≡ apart chain n
  apart_between-sum x own =
      let pasts = sum_pasts-is word_count n in
      sum_by-swap (sum_pasts word_count n) pasts chain.states (λ y past. one_if (are_apart chain n past) * one_if (is_same (end_of chain past n x) y))
      ∙ sum-same (sum_pasts word_count n) pasts
      (λ past. sum_by (λ y. one_if (are_apart chain n past) * one_if (is_same (end_of chain past n x) y)) chain.states) (λ past. one_if (are_apart chain n past))
      (λ past. (let z = end_of chain past n x in
      sum_by-at chain.states (λ y. is_same z y) z (λ y. one_if (are_apart chain n past)) (is_same-itself z) (λ y so. sym (same-from_eq z y so))
      is.finite.distinct (end_of-keeps chain past n x is.finite own)))

  module _ (weight : List ℕ → ℕ) (balanced : IsBalanced chain weight) (x : List ℕ) (own : Own chain x) where
    abbrev all : ℕ
    all = whole chain weight

    -- at each state the counts differ by no more than the pasts that leave states apart, from x and from a stationary start
    each-near : (y : List ℕ) → Own chain y
        → distance (all * pasts_between chain n x y) (weight y * word_count ^ n) ≤ all * apart_between x y + weighted chain weight (λ z. apart_between z y)
    each-near y member =
        let b = pasts_between chain n x y in
        let way = weighted-is chain weight in
        let fit = (balanced-stationary chain weight is balanced).each n y member in
        let from = way.more (λ z. pasts_between chain n z y) (λ z. apart_between z y) in
        let constant = sum_by-out chain.states weight (apart_between x y) in
        let to = way.more (λ z. pasts_between chain n z y) (λ z. apart_between x y) in
        let under = under-weighted chain weight (λ z. pasts_between chain n z y + apart_between x y) b (λ z there. between-under x z y own there) in
        let order = sum_by-order chain.states (λ z. weight z * pasts_between chain n z y) (λ z. weight z * (b + apart_between z y))
        (λ z there. mul-le-mul_left (weight z) (between-under z x y there own)) in
        let over = way.more (λ z. b) (λ z. apart_between z y) in
        let steady = sum_by-out chain.states weight b in
        distance-most (all * b) (weight y * word_count ^ n) (all * apart_between x y) (weighted chain weight (λ z. apart_between z y)) (omega arith) (omega arith)

    near : sum_by (λ y. distance (all * pasts_between chain n x y) (weight y * word_count ^ n)) chain.states ≤ 2 * (all * apart chain n)
    near =
        let over = sum_by-is chain.states in
        let order = sum_by-order chain.states (λ y. distance (all * pasts_between chain n x y) (weight y * word_count ^ n))
        (λ y. all * apart_between x y + weighted chain weight (λ z. apart_between z y)) each-near in
        let both = over.more (λ y. all * apart_between x y) (λ y. weighted chain weight (λ z. apart_between z y)) in
        let own_part = rw (apart_between-sum x own) at (sum-times (λ (g : List ℕ → ℕ). sum_by g chain.states) over all (λ y. apart_between x y)) in
        let others = weighted-swap (λ (g : List ℕ → ℕ). sum_by g chain.states) over chain weight (λ z y. apart_between z y) in
        let each = weighted-same chain weight (λ z. sum_by (λ y. apart_between z y) chain.states) (λ z. apart chain n) (λ z there. apart_between-sum z there) in
        let constant = sum_by-out chain.states weight (apart chain n) in omega arith

pub chain-mixes : (chain : Chain) → IsChain chain → MixesAsCoupled chain
chain-mixes chain is = λ weight n x balanced own. near chain is n weight balanced x own

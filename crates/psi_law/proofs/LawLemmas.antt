-- The law: samples that all states reach are met in each state as often as the weights say, up to those that aren't met; and so are their means.
use Rattle.std.specs.Prelude.{◌≡◌, ℕ, ◌+◌, ◌*◌, ◌^◌, ◌≤◌, List, refl}
use Rattle.std.proofs.Common.{ap, ◌∙◌, arith}
use Rattle.psi_state.specs.declared.Outcome.{Outcome}
use Rattle.psi_state.specs.declared.Outcome.TheVariants.{Met, NotMet}
use Rattle.psi_state.specs.Members.{In}
use Rattle.psi_state.proofs.StatesLemmas.{same-from_eq}
use Rattle.psi_law.specs.Counting.{Words, sum_pasts}
use Rattle.psi_law.specs.Wheel.{word_count}
use Rattle.psi_law.specs.Chains.{Chain, IsChain, is_same, end_of, whole, weighted, IsBalanced}
use Rattle.psi_law.specs.Samples.{is_met_in, is_unmet, value_met, met_in, unmet, sum_met, HasLaw, HasMean}
use Rattle.psi_law.proofs.SumsLemmas.{one_if, at_most_one, sum-same, sum-times, sum_pasts-is, sum_by-at}
use Rattle.psi_law.proofs.ChainLemmas.{Own, is_same-itself, end_of-keeps}
use Rattle.psi_law.proofs.BalanceLemmas.{weighted-is, weighted-order, weighted-constant, weighted-pasts}

-- where an outcome is met, it is in z
abbrev pub MeetsAt : List ℕ → Outcome → Type 0
MeetsAt z o = (t : ℕ) (y : List ℕ) → o ≡ Met t y → z ≡ y

-- a way to lead each state to another under each past of n words: it keeps the states, and over all pasts it leads as much weight to each of them as it has
pub record IsSteady (chain : Chain) (weight : List ℕ → ℕ) (n : ℕ) (end : Words → List ℕ → List ℕ) : Type 0 where
  pub keeps : (past : Words) (x : List ℕ) → Own chain x → Own chain (end past x)
  pub still : (h : List ℕ → ℕ) → weighted chain weight (λ x. sum_pasts word_count n (λ past. h (end past x))) ≡ word_count ^ n * weighted chain weight h

-- the runs of a chain are such a way where the weights balance
pub runs-steady : (chain : Chain) (weight : List ℕ → ℕ) (n : ℕ) → IsChain chain → IsBalanced chain weight → IsSteady chain weight n (λ past x. end_of chain past n x)
runs-steady chain weight n is balanced = record {
  keeps = λ past x own. end_of-keeps chain past n x is.finite own;
  still = λ h. weighted-pasts chain weight is n h balanced;
}

-- a value with two parts, of which the one is added and the other taken away: where an outcome is met, they are those at z, and those of a bound of the value at z stand for them elsewhere
met-parts : (o : Outcome) (z : List ℕ) (up down : List ℕ → ℕ) (l m : ℕ) → l + down z ≤ m + up z → MeetsAt z o
    → value_met up o + l * one_if (is_unmet o) + down z ≤ value_met down o + m * one_if (is_unmet o) + up z
met-parts (Met t y) z up down l m under at = (let e : up z ≡ up y = ap up (at t y refl) in let f : down z ≡ down y = ap down (at t y refl) in omega arith)
met-parts (NotMet k) z up down l m under at = omega arith

met-one : (o : Outcome) (s : List ℕ) → value_met (λ x. one_if (is_same x s)) o ≡ one_if (is_met_in s o)
met-one (Met t y) s = refl
met-one (NotMet l) s = refl

met-none : (o : Outcome) → value_met (λ x. 0) o ≡ 0
met-none (Met t y) = refl
met-none (NotMet l) = refl

-- the sum over all pasts of the values, with a bound for each sample that isn't met
pub bound-sum : (sample : Words → Outcome) (n : ℕ) (value : List ℕ → ℕ) (c : ℕ)
    → sum_pasts word_count n (λ past. value_met value (sample past) + c * one_if (is_unmet (sample past))) ≡ sum_met sample n value + c * unmet sample n
bound-sum sample n value c =
    (sum_pasts-is word_count n).more (λ past. value_met value (sample past)) (λ past. c * one_if (is_unmet (sample past)))
    ∙ ap (λ k. sum_met sample n value + k) (sum-times (sum_pasts word_count n) (sum_pasts-is word_count n) c (λ past. one_if (is_unmet (sample past))))

module _ (chain : Chain) (weight : List ℕ → ℕ) (n : ℕ) (end : Words → List ℕ → List ℕ) (steady : IsSteady chain weight n end) where
  -- what holds at the end of each past holds of the sums over all pasts and by the weights
  pub sums-between : (a b : Words → ℕ) (g h : List ℕ → ℕ) → ((past : Words) (x : List ℕ) → Own chain x → a past + h (end past x) ≤ b past + g (end past x))
      → whole chain weight * sum_pasts word_count n a + weighted chain weight h * word_count ^ n ≤ whole chain weight * sum_pasts word_count n b + weighted chain weight g * word_count ^ n
  sums-between a b g h each =
      let sum = sum_pasts word_count n in
      let pasts = sum_pasts-is word_count n in
      let way = weighted-is chain weight in
      let order = weighted-order chain weight (λ x. sum a + sum (λ past. h (end past x))) (λ x. sum b + sum (λ past. g (end past x)))
      (λ x own.
      (let under = pasts.order (λ past. a past + h (end past x)) (λ past. b past + g (end past x)) (λ past. each past x own) in
      let left = pasts.more a (λ past. h (end past x)) in
      let right = pasts.more b (λ past. g (end past x)) in omega arith)) in
      let left = way.more (λ x. sum a) (λ x. sum (λ past. h (end past x))) in
      let right = way.more (λ x. sum b) (λ x. sum (λ past. g (end past x))) in
      let left-own = weighted-constant chain weight (sum a) in
      let right-own = weighted-constant chain weight (sum b) in
      let left-end = steady.still h in
      let right-end = steady.still g in omega arith

  -- samples that are met at these ends alone
  module _ (sample : Words → Outcome) (meets : (past : Words) (x : List ℕ) → Own chain x → MeetsAt (end past x) (sample past)) where
    -- the mean of a value with two parts is at least that of the samples, with a bound of it, with the parts l and m, where these aren't met
    pub parts-mean : (up down : List ℕ → ℕ) (l m : ℕ) → ((x : List ℕ) → Own chain x → l + down x ≤ m + up x)
        → whole chain weight * (sum_met sample n up + l * unmet sample n) + weighted chain weight down * word_count ^ n
        ≤ whole chain weight * (sum_met sample n down + m * unmet sample n) + weighted chain weight up * word_count ^ n
    parts-mean up down l m under =
        rw (bound-sum sample n up l, bound-sum sample n down m) at (sums-between (λ past. value_met up (sample past) + l * one_if (is_unmet (sample past)))
        (λ past. value_met down (sample past) + m * one_if (is_unmet (sample past))) up down
        (λ past x own. met-parts (sample past) (end past x) up down l m (under (end past x) (steady.keeps past x own)) (meets past x own)))

    pub mean-is : (value : List ℕ → ℕ) (low high : ℕ) → ((x : List ℕ) → In x chain.states → low ≤ value x) → ((x : List ℕ) → In x chain.states → value x ≤ high)
        → HasMean sample n chain weight value low high
    mean-is value low high above below =
        let none = ap (λ (k : ℕ). k * word_count ^ n) (weighted-is chain weight).none in
        let none-met = ap (λ (k : ℕ). whole chain weight * k)
        (sum-same (sum_pasts word_count n) (sum_pasts-is word_count n) (λ past. value_met (λ x. 0) (sample past)) (λ past. 0) (λ past. met-none (sample past)) ∙ (sum_pasts-is word_count n).none) in
        record {
          least = (let under = parts-mean value (λ x. 0) low 0 (λ x own. (let least = above x own in omega arith)) in omega arith);
          most = (let over = parts-mean (λ x. 0) value 0 high (λ x own. (let most = below x own in omega arith)) in omega arith);
        }

    -- the law is the mean of a value that is 1 in one state
    law-at : (s : List ℕ) → Own chain s → IsChain chain → (whole chain weight * met_in sample n s ≤ weight s * word_count ^ n) × (weight s * word_count ^ n ≤ whole chain weight * (met_in sample n s + unmet sample n))
    law-at s own is =
        let one : List ℕ → ℕ = λ x. one_if (is_same x s) in
        let mean = mean-is one 0 1 (λ x member. omega arith) (λ x member. at_most_one (is_same x s)) in
        let least = mean.least in
        let most = mean.most in
        let part = ap (λ (k : ℕ). k * word_count ^ n) (sum_by-at chain.states (λ x. is_same x s) s weight (is_same-itself s) (λ x so. same-from_eq x s so) is.finite.distinct own) in
        let met = ap (λ (k : ℕ). whole chain weight * k)
        (sum-same (sum_pasts word_count n) (sum_pasts-is word_count n) (λ past. value_met one (sample past)) (λ past. one_if (is_met_in s (sample past))) (λ past. met-one (sample past) s)) in
        (omega arith, omega arith)

    pub law-is : IsChain chain → HasLaw sample n chain weight
    law-is is = record { least = λ s own. (law-at s own is).0; most = λ s own. (law-at s own is).1 }

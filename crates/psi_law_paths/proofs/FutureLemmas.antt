-- Where weights balance, the words of a future lead as much weight to each state as it has, at each time.
use Rattle.std.specs.Prelude.{◌≡◌, ℕ, zero, suc, ◌+◌, ◌*◌, ◌^◌, ◌≤◌, List}
use Rattle.std.proofs.Common.{ap, ◌∙◌, arith}
use Rattle.std.proofs.Math.Nat.{pow-succ'}
use Rattle.std.proofs.lemmas.Nat.{pow-add}
use Rattle.psi_rate.specs.Composition.{picked}
use Rattle.psi_law.specs.Counting.{Words, sum_below, after, sum_pasts}
use Rattle.psi_law.specs.Wheel.{word_count}
use Rattle.psi_law.specs.Chains.{Chain, IsChain, end_of, weighted, IsBalanced}
use Rattle.psi_law.proofs.SumsLemmas.{sum-same, sum-times, sum_below-is, sum_pasts-is, pasts-constant}
use Rattle.psi_law.proofs.BalanceLemmas.{weighted-is, weighted-same, weighted-words, weighted-pasts}
use Rattle.psi_law.proofs.JoinedLemmas.{joined, sum_pasts-joined}
use Rattle.psi_law_paths.proofs.AlongLemmas.{later, later-first, reached, both-along}

module _ (chain : Chain) (weight : List ℕ → ℕ) (is : IsChain chain) where
  -- the sum over the futures of what is told of the state at time k
  weighted-futures : (n k : ℕ) (h : List ℕ → ℕ) → k ≤ n → IsBalanced chain weight
      → weighted chain weight (λ x. sum_pasts word_count n (λ q. h (later chain q k x))) ≡ word_count ^ n * weighted chain weight h
  weighted-futures n zero h small balanced =
      weighted-same chain weight (λ x. sum_pasts word_count n (λ q. h x)) (λ x. word_count ^ n * h x) (λ x own. pasts-constant word_count n (h x) ∙ omega arith)
      ∙ sum-times (weighted chain weight) (weighted-is chain weight) (word_count ^ n) h
  weighted-futures zero (suc k) h small balanced = absurd (omega arith)
  weighted-futures (suc n) (suc k) h small balanced =
      let pasts = sum_pasts-is word_count n in
      let all = weighted chain weight h in
      let told : List ℕ → ℕ = λ y. sum_pasts word_count n (λ q. h (later chain q k y)) in
      let e : word_count ^ suc n * all ≡ word_count * word_count ^ n * all = ap (λ m. m * all) (pow-succ' word_count n) in
      let rest = weighted-futures n k h (omega arith) balanced in
      weighted-same chain weight (λ x. sum_pasts word_count (suc n) (λ q. h (later chain q (suc k) x)))
      (λ x. sum_below word_count (λ word. told (picked chain.functions chain.rates word x)))
      (λ x own. sum-same (sum_below word_count) (sum_below-is word_count) (λ word. sum_pasts word_count n (λ q. h (later chain (after word q) (suc k) x)))
      (λ word. told (picked chain.functions chain.rates word x))
      (λ word. sum-same (sum_pasts word_count n) pasts (λ q. h (later chain (after word q) (suc k) x)) (λ q. h (later chain q k (picked chain.functions chain.rates word x)))
      (λ q. ap h (later-first chain word q k x))))
      ∙ (weighted-words chain weight is told balanced ∙ (ap (λ m. word_count * m) rest ∙ omega arith))

  -- and over the lists of the words of both
  pub weighted-paths : (first n k : ℕ) (h : List ℕ → ℕ) → k ≤ n → IsBalanced chain weight
      → weighted chain weight (λ x. sum_pasts word_count (first + n) (λ words. h (reached chain first words k (end_of chain words first x))))
      ≡ word_count ^ (first + n) * weighted chain weight h
  weighted-paths first n k h small balanced =
      let all = weighted chain weight h in
      let told : List ℕ → ℕ = λ y. sum_pasts word_count n (λ q. h (later chain q k y)) in
      let g : List ℕ → Words → ℕ = λ x words. h (reached chain first words k (end_of chain words first x)) in
      let power : word_count ^ (first + n) * all ≡ word_count ^ first * word_count ^ n * all = ap (λ m. m * all) (pow-add word_count first n) in
      weighted-same chain weight (λ x. sum_pasts word_count (first + n) (g x)) (λ x. sum_pasts word_count first (λ p. told (end_of chain p first x)))
      (λ x own. sum_pasts-joined word_count first n (g x)
      ∙ sum-same (sum_pasts word_count first) (sum_pasts-is word_count first) (λ p. sum_pasts word_count n (λ q. g x (joined first p q))) (λ p. told (end_of chain p first x))
      (λ p. sum-same (sum_pasts word_count n) (sum_pasts-is word_count n) (λ q. g x (joined first p q)) (λ q. h (later chain q k (end_of chain p first x)))
      (λ q. ap h (both-along chain first p q k x))))
      ∙ (weighted-pasts chain weight is first told balanced ∙ (ap (λ m. word_count ^ first * m) (weighted-futures n k h small balanced) ∙ omega arith))

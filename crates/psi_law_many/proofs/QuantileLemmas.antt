-- Counts of samples below and above a quantile are seldom large.
use Rattle.std.specs.Prelude.{◌≡◌, ℕ, ◌-◌, ◌*◌, ◌^◌, ◌≤◌, List, Bool, nat_le, nat_lt, refl}
use Rattle.std.proofs.Common.{subst, arith}
use Rattle.psi_state.specs.declared.Outcome.{Outcome}
use Rattle.psi_law.specs.Counting.{Words, sum_pasts}
use Rattle.psi_law.specs.Wheel.{word_count}
use Rattle.psi_law.specs.Chains.{Chain, IsChain, whole, weighted, IsBalanced}
use Rattle.psi_law.specs.Samples.{Reaches}
use Rattle.psi_law.proofs.SumsLemmas.{at_most_one, sum-same, sum_pasts-is}
use Rattle.psi_law_many.specs.Lists.{AtMost}
use Rattle.psi_law_many.specs.Values.{value_or, IsMeasured, Score}
use Rattle.psi_law_many.specs.Tails.{cases_from}
use Rattle.psi_law_many.specs.Quantiles.{mark, hits, IsQuantile, HasQuantiles}
use Rattle.psi_law_many.specs.Statements.{BalanceHasQuantiles}
use Rattle.psi_law_many.proofs.ListsLemmas.{at-most-both}
use Rattle.psi_law_many.proofs.ScoreLemmas.{IsScore}
use Rattle.psi_law_many.proofs.BoundsLemmas.{first-score, sample-bounds}
use Rattle.psi_law_many.proofs.IntervalLemmas.{binomial-few}

mark-most : (has : List ℕ → Bool) (x : List ℕ) → mark has x ≤ 1
mark-most has x = at_most_one (has x)

-- samples of a chain that all states reach
module _ (chain : Chain) (sample : Words → Outcome) (n : ℕ) (is : IsChain chain) (reaches : Reaches chain sample n) (weight : List ℕ → ℕ) (balanced : IsBalanced chain weight) where
  -- the score of the samples in states with a property
  abbrev hit : (List ℕ → Bool) → Score
  hit has = record { score = λ past. value_or 0 (mark has) (sample past); top = 1; part = weighted chain weight (mark has); whole = whole chain weight }

  hit-is : (has : List ℕ → Bool) → IsScore n (hit has)
  hit-is has =
      let measured : IsMeasured chain weight (mark has) 0 1 = record { balanced = balanced; above = λ x own. omega arith; below = λ x own. mark-most has x } in
      let score = first-score (sample-bounds is reaches measured) in
      let same : sum_pasts word_count n (λ past. value_or 0 (mark has) (sample past) - 0) ≡ sum_pasts word_count n (λ past. value_or 0 (mark has) (sample past))
      = sum-same (sum_pasts word_count n) (sum_pasts-is word_count n) (λ past. value_or 0 (mark has) (sample past) - 0) (λ past. value_or 0 (mark has) (sample past)) (λ past. omega arith) in
      let part : weighted chain weight (mark has) - 0 * whole chain weight ≡ weighted chain weight (mark has) = omega arith in
      let share = score.share in
      record { most = λ past. (let most = score.most past in omega arith); mean = rw (same, part) at score.mean; share = omega arith }

  hits-few : (has : List ℕ → Bool) (k r q d i : ℕ) → 1 ≤ whole chain weight → 1 ≤ q → r ≤ q → weighted chain weight (mark has) * q ≤ r * whole chain weight
      → d * cases_from r (q - r) k i ≤ q ^ k → AtMost 1 d n k (λ pasts. nat_le i (hits has sample pasts))
  hits-few has k r q d i some parts share less few = binomial-few n (hit has) (hit-is has) k q d i r less some parts refl share few

  module _ (value : List ℕ → ℕ) where
    upper-few : (k r q d i m : ℕ) → IsQuantile chain weight value r q m → d * cases_from r (q - r) k i ≤ q ^ k
        → AtMost 1 d n k (λ pasts. nat_le i (hits (λ x. nat_lt (value x) m) sample pasts))
    upper-few k r q d i m quantile few = hits-few (λ x. nat_lt (value x) m) k r q d i quantile.some quantile.parts quantile.share quantile.below few

    lower-few : (k r q d j m : ℕ) → IsQuantile chain weight value r q m → d * cases_from (q - r) r k j ≤ q ^ k
        → AtMost 1 d n k (λ pasts. nat_le j (hits (λ x. nat_lt m (value x)) sample pasts))
    lower-few k r q d j m quantile few =
        let share = quantile.share in
        let back : r ≡ q - (q - r) = omega arith in
        hits-few (λ x. nat_lt m (value x)) k (q - r) q d j quantile.some quantile.parts (omega arith) quantile.above
        (subst (λ o. d * cases_from (q - r) o k j ≤ q ^ k) back few)

    pub has-quantiles : HasQuantiles sample n chain weight value
    has-quantiles = record {
      upper = upper-few;
      lower = lower-few;
      both = λ k r q d i j m quantile few fewer. at-most-both d n k (λ pasts. nat_le i (hits (λ x. nat_lt (value x) m) sample pasts)) (λ pasts. nat_le j (hits (λ x. nat_lt m (value x)) sample pasts))
          (upper-few k r q d i m quantile few) (lower-few k r q d j m quantile fewer);
    }

pub balance-quantiles : (chain : Chain) (sample : Words → Outcome) (n : ℕ) → IsChain chain → Reaches chain sample n → BalanceHasQuantiles chain sample n
balance-quantiles chain sample n is reaches = λ weight value balanced. has-quantiles chain sample n is reaches weight balanced value

-- Scores: their means over all pasts, and what a false claim says of them.
use Rattle.std.specs.Prelude.{◌≡◌, ℕ, zero, suc, ◌+◌, ◌*◌, ◌^◌, ◌<◌, ◌≤◌, List, true, refl}
use Rattle.std.proofs.Common.{ap, sym, ◌∙◌, arith}
use Rattle.std.proofs.Math.Nat.{mul-le-mul_left, mul-le-mul_right, le_of_mul-le-mul_left}
use Rattle.std.proofs.lemmas.Bool.{ltb-true}
use Rattle.psi_state.specs.declared.Outcome.{Outcome}
use Rattle.psi_state.specs.declared.Outcome.TheVariants.{Met, NotMet}
use Rattle.psi_law.specs.Counting.{Words, sum_pasts}
use Rattle.psi_law.specs.Wheel.{word_count}
use Rattle.psi_law.specs.Samples.{is_unmet, value_met, unmet, sum_met}
use Rattle.psi_law.proofs.SumsLemmas.{one_if, sum-same, sum_pasts-is, pasts-constant}
use Rattle.psi_law.proofs.LawLemmas.{MeetsAt, bound-sum}
use Rattle.psi_law_many.specs.Values.{value_or, Score}
use Rattle.psi_law_many.specs.Intervals.{overstates}

-- a score is at most its top, and the mean over all pasts is at most the mean that it is compared with, which is at most the top
pub record IsScore (n : ℕ) (s : Score) : Type 0 where
  pub most : (past : Words) → s.score past ≤ s.top
  pub mean : s.whole * sum_pasts word_count n s.score ≤ s.part * word_count ^ n
  pub share : s.part ≤ s.whole * s.top

-- ---- the scores of samples

pub or-between : (o : Outcome) (z : List ℕ) (value : List ℕ → ℕ) (other low high : ℕ) → low ≤ value z → value z ≤ high → low ≤ other → other ≤ high → MeetsAt z o
    → (low ≤ value_or other value o) × (value_or other value o ≤ high)
or-between (Met t y) z value other low high above below least most at = (let e : value z ≡ value y = ap value (at t y refl) in (omega arith, omega arith))
or-between (NotMet l) z value other low high above below least most at = (least, most)

or-parts : (value : List ℕ → ℕ) (other : ℕ) (o : Outcome) → value_or other value o ≡ value_met value o + other * one_if (is_unmet o)
or-parts value other (Met t y) = omega arith
or-parts value other (NotMet l) = omega arith

-- the sum over all pasts of the values, with another number for each sample that did not coalesce
pub or-sum : (sample : Words → Outcome) (n : ℕ) (value : List ℕ → ℕ) (other : ℕ)
    → sum_pasts word_count n (λ past. value_or other value (sample past)) ≡ sum_met sample n value + other * unmet sample n
or-sum sample n value other =
    sum-same (sum_pasts word_count n) (sum_pasts-is word_count n) (λ past. value_or other value (sample past)) (λ past. value_met value (sample past) + other * one_if (is_unmet (sample past)))
    (λ past. or-parts value other (sample past))
    ∙ bound-sum sample n value other

-- what is left of two sums whose terms add up to a constant
pub parts-sum : (n c : ℕ) (g h : Words → ℕ) → ((past : Words) → g past + h past ≡ c) → sum_pasts word_count n g + sum_pasts word_count n h ≡ c * word_count ^ n
parts-sum n c g h both =
    let is = sum_pasts-is word_count n in
    sym (is.more g h) ∙ (sum-same (sum_pasts word_count n) is (λ past. g past + h past) (λ past. c) both
    ∙ pasts-constant word_count n c)

-- ---- claims

-- the same score, compared with a mean of r of q
abbrev pub against : Score → ℕ → ℕ → Score
against s q r = record { score = s.score; top = s.top; part = r; whole = q }

some-less : (u r s : ℕ) → u < r * s → (1 ≤ r) × (1 ≤ s)
some-less u zero s less = absurd (omega arith)
some-less u (suc r) zero less = absurd (omega arith)
some-less u (suc r) (suc s) less = (omega arith, omega arith)

-- where the mean that a score is compared with is at most r of q, so is the mean over all pasts
pub mean-under : (n : ℕ) (s : Score) (q r : ℕ) → IsScore n s → s.part * q ≤ r * s.whole → 1 ≤ s.whole → q * sum_pasts word_count n s.score ≤ r * word_count ^ n
mean-under n s q r is less some = le_of_mul-le-mul_left (omega (arith, mul-le-mul_left q is.mean, mul-le-mul_right (word_count ^ n) less)) some

pub against-is : (n : ℕ) (s : Score) (q r : ℕ) → IsScore n s → s.part * q ≤ r * s.whole → 1 ≤ s.whole → r ≤ q * s.top → IsScore n (against s q r)
against-is n s q r is less some share = record { most = is.most; mean = mean-under n s q r is less some; share = share }

-- a false claim is of some parts, and of weights that are not all 0
pub record IsFalse (s : Score) (q r : ℕ) : Type 0 where
  pub less : s.part * q ≤ r * s.whole
  pub claimed : 1 ≤ r
  pub some : 1 ≤ s.whole

pub overstates-false : (s : Score) (q r : ℕ) → overstates s q r ≡ true → IsFalse s q r
overstates-false s q r so =
    let less = ltb-true (s.part * q) (r * s.whole) so in
    let some = some-less (s.part * q) r s.whole less in
    record { less = omega arith; claimed = some.0; some = some.1 }

-- Claims from a total that a certificate supports are seldom false.
use Rattle.std.specs.Prelude.{◌≡◌, ℕ, zero, suc, ◌+◌, ◌-◌, ◌*◌, ◌^◌, ◌<◌, ◌≤◌, ◌⊎◌, List, length, Bool, true, false, nat_le}
use Rattle.std.specs.List.{sum_by}
use Rattle.std.proofs.Common.{inl, inr, ap, ◌∙◌, subst, arith}
use Rattle.std.proofs.Math.Nat.{mul-le-mul_left, mul-le-mul_right, le_of_mul-le-mul_left, one-le-pow, one-le-mul}
use Rattle.std.proofs.lemmas.Bool.{cases_Bool, cases_lt, both_ways, le-leb}
use Rattle.std.proofs.lemmas.List.Sums.{sum_by-le}
use Rattle.psi_law.specs.Counting.{Words}
use Rattle.psi_law.specs.Wheel.{word_count}
use Rattle.psi_law_many.specs.Lists.{AtMost}
use Rattle.psi_law_many.specs.Values.{Score}
use Rattle.psi_law_many.specs.Tails.{cases_from, at_least, IsTailed}
use Rattle.psi_law_many.specs.Intervals.{overstates, IsChernoff, IsBinomial, IsRule, misses, HasIntervals}
use Rattle.psi_law_many.proofs.ListsLemmas.{at-most-none, at-most-order, at-most-both}
use Rattle.psi_law_many.proofs.ScoreLemmas.{IsScore, against, against-is, IsFalse, overstates-false}
use Rattle.psi_law_many.proofs.ExponentialLemmas.{exponential-tail}
use Rattle.psi_law_many.proofs.BinomialLemmas.{binomial-tail}

pub tailed : (n : ℕ) (s : Score) → IsScore n s → IsTailed n s
tailed n s is = record {
  exponential = λ k a b i j order whole. exponential-tail n s is a b order k i j whole;
  binomial = λ k i one. binomial-tail n s is one k i;
}

-- ---- one claim

-- c lists, of w, have f times p for p, and d times m is at most f
few-of : (c d f p m w : ℕ) → 1 ≤ m → c * f * p ≤ m * w → d * m ≤ f * p → c * d ≤ 1 * w
few-of c d f p m w some tail few = le_of_mul-le-mul_left (omega (arith, mul-le-mul_left c few, tail)) some

few-cases : (c d p m w : ℕ) → 1 ≤ p → c * p ≤ m * w → d * m ≤ p → c * d ≤ 1 * w
few-cases c d p m w some tail few = le_of_mul-le-mul_left (omega (arith, mul-le-mul_left d tail, mul-le-mul_right w few)) some

-- where i or more is rare under a mean of r of q, and the mean is less
module _ (n : ℕ) (s : Score) (is : IsScore n s) (k q d i r : ℕ) where
  chernoff-few : IsFalse s q r → i ≤ k * s.top → IsChernoff k s.top q d i r → AtMost 1 d n k (λ pasts. nat_le i (sum_by s.score pasts))
  chernoff-few wrong small told =
      let z = s.top in
      let j = k * z - i in
      let m = r * told.a ^ z + (q * z - r) * told.b ^ z in
      let tail = exponential-tail n (against s q r) (against-is n s q r is wrong.less wrong.some told.share) told.a told.b told.order k i j (omega arith) in
      let positive : 1 ≤ m = omega (arith, one-le-mul wrong.claimed (one-le-pow z told.a told.some)) in
      few-of (at_least n k s i) d (told.a ^ i * told.b ^ j) ((q * z) ^ k) (m ^ k) (word_count ^ (n * k)) (one-le-pow k m positive) tail told.few

  pub binomial-few : s.part * q ≤ r * s.whole → 1 ≤ s.whole → 1 ≤ q → s.top ≡ 1 → r ≤ q → d * cases_from r (q - r) k i ≤ q ^ k
      → AtMost 1 d n k (λ pasts. nat_le i (sum_by s.score pasts))
  binomial-few less some parts one share few =
      let top : q * s.top ≡ q * 1 = ap (λ m. q * m) one in
      let tail = binomial-tail n (against s q r) (against-is n s q r is less some (omega arith)) one k i in
      few-cases (at_least n k s i) d (q ^ k) (cases_from r (q - r) k i) (word_count ^ (n * k)) (one-le-pow k q parts) tail few

  claim-few : overstates s q r ≡ true → i ≤ k * s.top → IsChernoff k s.top q d i r ⊎ IsBinomial k s.top q d i r → AtMost 1 d n k (λ pasts. nat_le i (sum_by s.score pasts))
  claim-few so small certificate =
      let wrong = overstates-false s q r so in
      elim certificate [
        | inl told ↦ chernoff-few wrong small told
        | inr told ↦ binomial-few wrong.less wrong.some (let claimed = wrong.claimed in let share = told.share in omega arith) told.one told.share told.few
      ]

-- ---- a rule

-- the least number below a bound that passes a test, or none
pub record IsLeast (test : ℕ → Bool) (n : ℕ) : Type 0 where
  pub at : ℕ
  pub within : at < n
  pub passed : test at ≡ true
  pub before : (i : ℕ) → i < at → test i ≡ false

pub least : (test : ℕ → Bool) (n : ℕ) → ((i : ℕ) → i < n → test i ≡ false) ⊎ IsLeast test n
least test zero = inl (λ i small. absurd (omega arith))
least test (suc n) = elim (least test n) [
  | inr found ↦ inr (record { at = found.at; within = (let w = found.within in omega arith); passed = found.passed; before = found.before })
  | inl none ↦ elim (cases_Bool (test n)) [
    | inl so ↦ inr (record { at = n; within = omega arith; passed = so; before = none })
    | inr not_so ↦ inl (λ i small. elim (cases_lt i n) [
      | inl less ↦ none i less
      | inr more ↦ (let e : i ≡ n = omega arith in ap test e ∙ not_so)
    ])
  ]
]

-- nothing is overstated by a claim of 0
pub overstates-some : (s : Score) (q r : ℕ) → r ≡ 0 → overstates s q r ≡ true → ⊥
overstates-some s q r none so = (let claimed = (overstates-false s q r so).claimed in omega (arith, claimed, none))

-- a total is at most that of the tops
total-most : (n : ℕ) (s : Score) → IsScore n s → (k : ℕ) (pasts : List Words) → length pasts ≡ k → sum_by s.score pasts ≤ k * s.top
total-most n s is k pasts so = subst (λ m. sum_by s.score pasts ≤ m * s.top) so (sum_by-le s.score s.top pasts (λ i d small. is.most _))

-- all lists that a rule is wrong for have at least the least total that it is wrong at
pub rule-few : (n : ℕ) (s : Score) → IsScore n s → (k q d : ℕ) (rule : ℕ → ℕ) → IsRule k s.top q d rule → AtMost 1 d n k (misses s q rule)
rule-few n s is k q d rule ruled =
    let test : ℕ → Bool = λ i. overstates s q (rule i) in
    elim (least test (suc (k * s.top))) [
      | inl none ↦ at-most-none d n k (misses s q rule) (λ pasts so. none (sum_by s.score pasts) (let most = total-most n s is k pasts so in omega arith))
      | inr found ↦
          (let i = found.at in
          let small : i ≤ k * s.top = (let w = found.within in omega arith) in
          at-most-order d n k (misses s q rule) (λ pasts. nat_le i (sum_by s.score pasts))
          (λ pasts so wrong. elim (cases_lt (sum_by s.score pasts) i) [
            | inl before ↦ absurd (both_ways (test (sum_by s.score pasts)) (found.before (sum_by s.score pasts) before) wrong)
            | inr after ↦ le-leb i (sum_by s.score pasts) after
          ])
          (elim (ruled.each i small) [
            | inl none ↦ absurd (overstates-some s q (rule i) none found.passed)
            | inr certificate ↦ claim-few n s is k q d i (rule i) found.passed small certificate
          ]))
    ]

pub has-intervals : (n : ℕ) (s t : Score) → IsScore n s → IsScore n t → HasIntervals n s t
has-intervals n s t first last = record {
  lower = λ k q d rule ruled. rule-few n s first k q d rule ruled;
  upper = λ k q d rule ruled. rule-few n t last k q d rule ruled;
  both = λ k q d rule other ruled others. at-most-both d n k (misses s q rule) (misses t q other) (rule-few n s first k q d rule ruled) (rule-few n t last k q d other others);
}

-- Totals of scores of 0 and 1 are binomial counts.
use Rattle.std.specs.Prelude.{◌≡◌, ℕ, zero, suc, ◌+◌, ◌-◌, ◌*◌, ◌^◌, ◌≤◌, ◌∷◌, nat_le, refl}
use Rattle.std.specs.List.{sum_by}
use Rattle.std.proofs.Common.{ap, sym, ◌∙◌, arith}
use Rattle.std.proofs.Math.Nat.{pow-zero, pow-suc, mul-le-mul_left, mul-le-mul_right}
use Rattle.std.proofs.lemmas.Bool.{leb-true, le-leb, lt-leb}
use Rattle.std.proofs.lemmas.List.Sums.{sum_by-cons}
use Rattle.psi_law.specs.Counting.{Words, sum_pasts}
use Rattle.psi_law.specs.Wheel.{word_count}
use Rattle.psi_law.proofs.SumsLemmas.{one_if, at_most_one, sum-times, sum_pasts-is}
use Rattle.psi_law_many.specs.Lists.{sum_lists, count_lists}
use Rattle.psi_law_many.specs.Values.{Score}
use Rattle.psi_law_many.specs.Tails.{cases_from, at_least}
use Rattle.psi_law_many.proofs.ListsLemmas.{sum_lists-is, lists-ones, lists-power, count-order}
use Rattle.psi_law_many.proofs.ScoreLemmas.{IsScore, parts-sum}

-- ---- the binomial distribution

-- all cases have 0 or more
pub cases-all : (u v k : ℕ) → cases_from u v k 0 ≡ (u + v) ^ k
unfolding cases_from
cases-all u v zero = sym (pow-zero (u + v))
cases-all u v (suc k) = rw (cases-all u v k, pow-suc (u + v) k) (omega arith)

pub cases-next : (u v k i : ℕ) → cases_from u v (suc k) (suc i) ≡ u * cases_from u v k i + v * cases_from u v k (suc i)
unfolding cases_from
cases-next u v k i = refl

-- no more cases have one more
cases-order : (u v k i : ℕ) → cases_from u v k (suc i) ≤ cases_from u v k i
unfolding cases_from
cases-order u v zero zero = omega arith
cases-order u v zero (suc i) = omega arith
cases-order u v (suc k) zero = (let under = mul-le-mul_left v (cases-order u v k 0) in omega arith)
cases-order u v (suc k) (suc i) = (let one = mul-le-mul_left u (cases-order u v k i) in let two = mul-le-mul_left v (cases-order u v k (suc i)) in omega arith)

-- a share that moves from the less to the more; x is y and g more
moved-gap : (u v r o y g : ℕ) → u * (r + o) * g ≤ r * (u + v) * g → u * (r + o) * (y + g) + v * (r + o) * y ≤ r * (u + v) * (y + g) + o * (u + v) * y
moved-gap u v r o y g less = omega arith

moved-share : (u v r o x y : ℕ) → u * (r + o) ≤ r * (u + v) → y ≤ x → u * (r + o) * x + v * (r + o) * y ≤ r * (u + v) * x + o * (u + v) * y
moved-share u v r o x y less order = (let e : x ≡ y + (x - y) = omega arith in rw e (moved-gap u v r o y (x - y) (mul-le-mul_right (x - y) less)))

more-of : (u v r o a b x y p s pn sn : ℕ) → pn ≡ p * (r + o) → sn ≡ s * (u + v) → u * (r + o) ≤ r * (u + v) → y ≤ x → a * p ≤ s * x → b * p ≤ s * y
    → (u * a + v * b) * pn ≤ sn * (r * x + o * y)
more-of u v r o a b x y p s pn sn e f less order one two =
    rw (e, f) (omega (arith, mul-le-mul_left (u * (r + o)) one, mul-le-mul_left (v * (r + o)) two, mul-le-mul_left s (moved-share u v r o x y less order)))

-- a greater share of ones has a greater share of cases with i or more
pub cases-more : (u v r o k i : ℕ) → u * (r + o) ≤ r * (u + v) → cases_from u v k i * (r + o) ^ k ≤ (u + v) ^ k * cases_from r o k i
unfolding cases_from
cases-more u v r o zero zero less = (let e = pow-zero (r + o) in let f = pow-zero (u + v) in omega arith)
cases-more u v r o zero (suc i) less = omega arith
cases-more u v r o (suc k) zero less = rw (cases-all u v (suc k), cases-all r o (suc k)) (omega arith)
cases-more u v r o (suc k) (suc i) less =
    more-of u v r o (cases_from u v k i) (cases_from u v k (suc i)) (cases_from r o k i) (cases_from r o k (suc i)) ((r + o) ^ k) ((u + v) ^ k) ((r + o) ^ suc k) ((u + v) ^ suc k)
    (pow-suc (r + o) k) (pow-suc (u + v) k) less (cases-order r o k i) (cases-more u v r o k i less) (cases-more u v r o k (suc i) less)

-- ---- lists of pasts

-- of one past before a list: v is its score, c and d count the lists with i or more and with i + 1 or more
one-of : (v m c d : ℕ) → v ≤ 1 → (v ≡ 0 → m ≤ d) → (v ≡ 1 → m ≤ c) → m ≤ c * v + d * (1 - v)
one-of zero m c d most none one = (let under = none refl in omega arith)
one-of (suc zero) m c d most none one = (let under = one refl in omega arith)
one-of (suc (suc v)) m c d most none one = absurd (omega arith)

-- a score of 0 and 1
module _ (n : ℕ) (s : Score) (is : IsScore n s) (one : s.top ≡ 1) where
  single : (past : Words) → s.score past ≤ 1
  single past = (let most = is.most past in omega arith)

  -- how many pasts score 1, and how many 0
  ones : ℕ
  ones = sum_pasts word_count n s.score

  nones : ℕ
  nones = sum_pasts word_count n (λ past. 1 - s.score past)

  ones-nones : ones + nones ≡ word_count ^ n
  unfolding ones nones
  ones-nones = parts-sum n 1 s.score (λ past. 1 - s.score past) (λ past. (let most = single past in omega arith)) ∙ omega arith

  lists-all : (k : ℕ) → at_least n k s 0 ≤ cases_from ones nones k 0
  lists-all k =
      let lists-is = sum_lists-is word_count n k in
      let order = lists-is.order (λ pasts. one_if (nat_le 0 (sum_by s.score pasts))) (λ pasts. 1) (λ pasts. at_most_one (nat_le 0 (sum_by s.score pasts))) in
      let all = lists-ones word_count n k in
      let cases : cases_from ones nones k 0 ≡ (word_count ^ n) ^ k = cases-all ones nones k ∙ ap (λ m. m ^ k) ones-nones in
      omega arith

  with-one : (past : Words) (k i : ℕ) → sum_lists word_count n k (λ pasts. one_if (nat_le (suc i) (sum_by s.score (past ∷ pasts))))
      ≤ at_least n k s i * s.score past + at_least n k s (suc i) * (1 - s.score past)
  with-one past k i =
      one-of (s.score past) (count_lists word_count n k (λ pasts. nat_le (suc i) (sum_by s.score (past ∷ pasts)))) (at_least n k s i) (at_least n k s (suc i)) (single past)
      (λ none. count-order word_count n k (λ pasts. nat_le (suc i) (sum_by s.score (past ∷ pasts))) (λ pasts. nat_le (suc i) (sum_by s.score pasts))
      (λ pasts so passed. (let sum = sum_by-cons s.score past pasts in let reached = leb-true (suc i) (sum_by s.score (past ∷ pasts)) passed in
      le-leb (suc i) (sum_by s.score pasts) (omega arith))))
      (λ scored. count-order word_count n k (λ pasts. nat_le (suc i) (sum_by s.score (past ∷ pasts))) (λ pasts. nat_le i (sum_by s.score pasts))
      (λ pasts so passed. (let sum = sum_by-cons s.score past pasts in let reached = leb-true (suc i) (sum_by s.score (past ∷ pasts)) passed in
      le-leb i (sum_by s.score pasts) (omega arith))))

  -- a total of i or more is had by the cases of as many draws
  lists-cases : (k i : ℕ) → at_least n k s i ≤ cases_from ones nones k i
  unfolding ones nones
  lists-cases k zero = lists-all k
  lists-cases zero (suc i) = (let none : at_least n zero s (suc i) ≡ 0 = ap one_if (lt-leb (suc i) 0 (omega arith)) in omega arith)
  lists-cases (suc k) (suc i) =
      let way = sum_pasts-is word_count n in
      let c = at_least n k s i in
      let d = at_least n k s (suc i) in
      let order = way.order (λ past. sum_lists word_count n k (λ pasts. one_if (nat_le (suc i) (sum_by s.score (past ∷ pasts))))) (λ past. c * s.score past + d * (1 - s.score past))
      (λ past. with-one past k i) in
      let more = way.more (λ past. c * s.score past) (λ past. d * (1 - s.score past)) in
      let first = sum-times (sum_pasts word_count n) way c s.score in
      let last = sum-times (sum_pasts word_count n) way d (λ past. 1 - s.score past) in
      rw (cases-next ones nones k i) (omega (arith, mul-le-mul_left ones (lists-cases k i), mul-le-mul_left nones (lists-cases k (suc i))))

  pub binomial-tail : (k i : ℕ) → at_least n k s i * s.whole ^ k ≤ cases_from s.part (s.whole - s.part) k i * word_count ^ (n * k)
  unfolding ones
  binomial-tail k i =
      let rest = s.whole - s.part in
      let whole : s.part + rest ≡ s.whole = (let share = rw one at is.share in omega arith) in
      let more = rw (ones-nones, whole, lists-power word_count n k) at (cases-more ones nones s.part rest k i (rw (whole, ones-nones) (omega (arith, is.mean)))) in
      omega (arith, more, mul-le-mul_right (s.whole ^ k) (lists-cases k i))

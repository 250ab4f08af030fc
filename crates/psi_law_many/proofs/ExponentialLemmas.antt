-- Large totals are rare, by the exponential inequality (Chernoff 1952).
use Rattle.std.specs.Prelude.{◌≡◌, ℕ, ◌+◌, ◌-◌, ◌*◌, ◌^◌, ◌≤◌, List, [], ◌∷◌, length, true, nat_le}
use Rattle.std.specs.List.{sum_by}
use Rattle.std.proofs.Common.{ap, sym, ◌∙◌, arith}
use Rattle.std.proofs.Math.Nat.{pow-zero, pow-le-pow_left, mul-le-mul_left, mul-le-mul_right}
use Rattle.std.proofs.lemmas.Nat.{mul-pow, pow-add}
use Rattle.std.proofs.lemmas.Bool.{leb-true}
use Rattle.std.proofs.lemmas.List.Sums.{sum_by-cons}
use Rattle.psi_law.specs.Counting.{Words, sum_pasts}
use Rattle.psi_law.specs.Wheel.{word_count}
use Rattle.psi_law.proofs.SumsLemmas.{sum-times, sum_pasts-is, sum-same, sum_by-is, sum_by-constant}
use Rattle.psi_law_many.specs.Values.{Score}
use Rattle.psi_law_many.specs.Tails.{at_least}
use Rattle.psi_law_many.proofs.ListsLemmas.{lists-power, product, lists-product, markov}
use Rattle.psi_law_many.proofs.ScoreLemmas.{IsScore, parts-sum}
use Rattle.psi_law_many.proofs.PowerLemmas.{convex, more-factors}

-- x and y are the sums over the pasts of the score and of what is left to the top z; a power of a is g above that of b
mean-line : (all x y z w s p e b g : ℕ) → z * all ≤ (b + g) * x + b * y → x + y ≡ z * w → s * x ≤ p * w → s * z ≡ p + e
    → all * (s * z) ≤ (p * (b + g) + e * b) * w
mean-line all x y z w s p e b g line parts mean share =
    let one = mul-le-mul_left s line in
    let two = mul-le-mul_left g mean in
    let three : b * s * (x + y) ≡ b * s * (z * w) = ap (λ m. b * s * m) parts in
    let four : b * w * (s * z) ≡ b * w * (p + e) = ap (λ m. b * w * m) share in
    omega arith

mean-lines : (all x y z w s p a b : ℕ) → b ≤ a → p ≤ s * z → z * all ≤ a * x + b * y → x + y ≡ z * w → s * x ≤ p * w
    → all * (s * z) ≤ (p * a + (s * z - p) * b) * w
mean-lines all x y z w s p a b order share line parts mean =
    let e : a ≡ b + (a - b) = omega arith in
    rw e (mean-line all x y z w s p (s * z - p) b (a - b) (rw e at line) parts mean (omega arith))

last-of : (c f p all r : ℕ) → f * c ≤ all → all * p ≤ r → c * f * p ≤ r
last-of c f p all r few powers = (let times = mul-le-mul_right p few in omega arith)

-- a score, and two numbers a and b of which a is not less
module _ (n : ℕ) (s : Score) (is : IsScore n s) (a b : ℕ) (order : b ≤ a) where
  rest : Words → ℕ
  rest past = s.top - s.score past

  tilt : Words → ℕ
  tilt past = a ^ s.score past * b ^ rest past

  -- the sum over all pasts is below the line
  tilt-line : s.top * sum_pasts word_count n tilt ≤ a ^ s.top * sum_pasts word_count n s.score + b ^ s.top * sum_pasts word_count n rest
  unfolding tilt rest
  tilt-line =
      let way = sum_pasts-is word_count n in
      let sum = sum_pasts word_count n in
      let p = a ^ s.top in
      let q = b ^ s.top in
      let times = sum-times sum way s.top tilt in
      let line = way.order (λ past. s.top * tilt past) (λ past. p * s.score past + q * rest past)
      (λ past. (let most = is.most past in let l = convex a b (s.score past) (s.top - s.score past) s.top (omega arith) in omega arith)) in
      let more = way.more (λ past. p * s.score past) (λ past. q * rest past) in
      let first = sum-times sum way p s.score in
      let last = sum-times sum way q rest in
      omega arith

  tilt-mean : sum_pasts word_count n tilt * (s.whole * s.top) ≤ (s.part * a ^ s.top + (s.whole * s.top - s.part) * b ^ s.top) * word_count ^ n
  unfolding rest
  tilt-mean =
      mean-lines (sum_pasts word_count n tilt) (sum_pasts word_count n s.score) (sum_pasts word_count n rest) s.top (word_count ^ n) s.whole s.part (a ^ s.top) (b ^ s.top)
      (pow-le-pow_left order s.top) is.share tilt-line
      (parts-sum n s.top s.score rest (λ past. (let most = is.most past in omega arith))) is.mean

  -- the product over a list
  rests-are : (pasts : List Words) → sum_by s.score pasts + sum_by rest pasts ≡ length pasts * s.top
  unfolding rest
  rests-are pasts =
      let is_sum = sum_by-is pasts in
      sym (is_sum.more s.score rest)
      ∙ (sum-same (λ (g : Words → ℕ). sum_by g pasts) is_sum (λ past. s.score past + rest past) (λ past. s.top) (λ past. (let most = is.most past in omega arith)) ∙ sum_by-constant pasts s.top)

  product-is : (pasts : List Words) → product tilt pasts ≡ a ^ sum_by s.score pasts * b ^ sum_by rest pasts
  unfolding product tilt
  product-is [] = (let p = pow-zero a in let q = pow-zero b in let e : a ^ 0 * b ^ 0 ≡ 1 * b ^ 0 = ap (λ m. m * b ^ 0) p in omega arith)
  product-is (past ∷ pasts) = simp (sum_by-cons, pow-add, product-is pasts) (omega arith)

  -- lists with a large total have a large product
  large-product : (k i j : ℕ) → i + j ≡ k * s.top → (pasts : List Words) → length pasts ≡ k → nat_le i (sum_by s.score pasts) ≡ true → a ^ i * b ^ j ≤ product tilt pasts
  large-product k i j whole pasts so reached =
      rw (product-is pasts)
      (more-factors a b i j (sum_by s.score pasts) (sum_by rest pasts) order (leb-true i (sum_by s.score pasts) reached) (whole ∙ sym (rests-are pasts ∙ ap (λ m. m * s.top) so)))

  pub exponential-tail : (k i j : ℕ) → i + j ≡ k * s.top
      → at_least n k s i * (a ^ i * b ^ j) * (s.whole * s.top) ^ k ≤ (s.part * a ^ s.top + (s.whole * s.top - s.part) * b ^ s.top) ^ k * word_count ^ (n * k)
  exponential-tail k i j whole =
      let all = sum_pasts word_count n tilt in
      let p = s.whole * s.top in
      let g = s.part * a ^ s.top + (s.whole * s.top - s.part) * b ^ s.top in
      let few = rw (lists-product word_count n k tilt) at (markov word_count n k (a ^ i * b ^ j) (λ pasts. nat_le i (sum_by s.score pasts)) (product tilt) (large-product k i j whole)) in
      let powers = rw (mul-pow all p k, mul-pow g (word_count ^ n) k) at (pow-le-pow_left tilt-mean k) in
      rw (lists-power word_count n k) at (last-of (at_least n k s i) (a ^ i * b ^ j) (p ^ k) (all ^ k) (g ^ k * (word_count ^ n) ^ k) few powers)

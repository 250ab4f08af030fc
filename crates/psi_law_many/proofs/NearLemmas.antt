-- Totals of numbers between two scores are near their mean, and so are means of samples near the stationary mean (Chebyshev's inequality).
use Rattle.std.specs.Prelude.{◌≡◌, ℕ, ◌+◌, ◌-◌, ◌*◌, ◌^◌, ◌≤◌, List, length, nat_le}
use Rattle.std.specs.List.{sum_by}
use Rattle.std.proofs.Common.{inl, inr, ap, ◌∙◌, arith}
use Rattle.std.proofs.Math.Nat.{mul-le-mul_left, mul-le-mul_right, le_of_mul-le-mul_left, one-le-pow, one-le-mul, le_trans}
use Rattle.std.proofs.lemmas.Bool.{cases_lt, leb-true, le-leb}
use Rattle.psi_state.specs.declared.Outcome.{Outcome}
use Rattle.psi_law.specs.Counting.{Words, sum_pasts}
use Rattle.psi_law.specs.Wheel.{word_count}
use Rattle.psi_law.specs.Chains.{Chain, IsChain, end_of, whole, weighted}
use Rattle.psi_law.specs.Samples.{Reaches}
use Rattle.psi_law.proofs.SumsLemmas.{sum-same, sum-times, sum_pasts-is, sum_by-is, sum_by-constant}
use Rattle.psi_law.proofs.ChainLemmas.{Own, end_of-keeps}
use Rattle.psi_law.proofs.BalanceLemmas.{weighted-is, weighted-order, weighted-constant, under-weighted, weighted-pasts}
use Rattle.psi_law_many.specs.Values.{value_or, IsMeasured, Score, surplus, deficit}
use Rattle.psi_law_many.specs.Means.{square, outside, spread, distance, far, IsNear}
use Rattle.psi_law_many.specs.Near.{deviation, deviating, HasNear}
use Rattle.psi_law_many.specs.Statements.{BalanceIsNear}
use Rattle.psi_law_many.proofs.SquareLemmas.{gap, gap-is}
use Rattle.psi_law_many.proofs.ListsLemmas.{sum_lists-is, count-order, markov}
use Rattle.psi_law_many.proofs.ScoreLemmas.{or-between}
use Rattle.psi_law_many.proofs.BoundsLemmas.{AreBounds, range-order, end-bounds, sample-bounds}
use Rattle.psi_law_many.proofs.ChebyshevLemmas.{draw, draw-ones, gaps-range, off-few}

pub some-words : 1 ≤ word_count
unfolding word_count
some-words = omega arith

-- ---- totals of numbers between two scores

quarter-of : (b d q g k z w : ℕ) → 1 ≤ q → b * (d * q) ≤ k * g * w → 4 * g ≤ q * z → b * (4 * d) ≤ k * z * w
quarter-of b d q g k z w some few range = le_of_mul-le-mul_left (omega (arith, few, mul-le-mul_left (k * w) range)) some

plain-of : (s b e k z v : ℕ) → 1 ≤ s → b * (4 * (s * e * (s * e))) ≤ k * (s * z * (s * z)) * v → b * (4 * (e * e)) ≤ k * (z * z) * v
plain-of s b e k z v some range = le_of_mul-le-mul_left (omega (arith, range)) (one-le-mul some some)

module _ {X : Type 0} {outer : (X → ℕ) → ℕ} {own : X → Type 0} {number : X → Words → ℕ} {n : ℕ} {s t : Score} (are : AreBounds outer own number n s t) where
  -- the number that is compared with the part of the mean, and the number that it is at most
  abbrev scaled : X → Words → ℕ
  scaled x past = s.whole * number x past

  abbrev most : Words → ℕ
  most past = s.top - t.score past

  scaled-mean : draw outer are.is own are.order n scaled (λ m. m) ≡ draw outer are.is own are.order n scaled (λ m. 1) * s.part
  scaled-mean =
      let sum = sum_pasts word_count n in
      let ones = rw are.ones at (draw-ones outer are.is own are.order n scaled) in
      let inner = sum-same outer are.is (λ x. sum (scaled x)) (λ x. s.whole * sum (number x)) (λ x. sum-times sum (sum_pasts-is word_count n) s.whole (number x)) in
      let out = rw are.mean at (sum-times outer are.is s.whole (λ x. sum (number x))) in
      rw ones (omega arith)

  some-few : 1 ≤ s.whole → (k d : ℕ) → deviating s t k n d * (4 * square d) ≤ k * square (s.whole * s.top) * word_count ^ (n * k)
  some-few some k d =
      let one : 1 ≤ outer (λ x. 1) = (let all = are.ones in omega arith) in
      let few = off-few outer are.is own are.order n scaled s.whole s.score most
      (λ x past is. mul-le-mul_left s.whole (are.least x past is)) (λ x past is. mul-le-mul_left s.whole (let high = are.most x past is in omega arith)) s.part scaled-mean one k d in
      let range = gaps-range outer are.is own are.order n scaled (s.whole * s.top) s.part (λ x past is. mul-le-mul_left s.whole (let high = are.most x past is in omega arith)) scaled-mean in
      let ones = draw-ones outer are.is own are.order n scaled in
      let words = one-le-mul (one-le-pow n word_count some-words) one in
      quarter-of (deviating s t k n d) (square d) (draw outer are.is own are.order n scaled (λ m. 1)) (draw outer are.is own are.order n scaled (λ m. gap m s.part)) k (square (s.whole * s.top)) (word_count ^ (n * k))
      (omega arith) few range

  -- without weights nothing is off
  none-off : s.whole ≤ 0 → (k : ℕ) (pasts : List Words) → deviation s t k pasts ≡ 0
  none-off none k pasts =
      let e : s.whole ≡ 0 = omega arith in
      let parts = are.parts in
      let part : s.whole * s.top ≡ 0 * s.top = ap (λ m. m * s.top) e in
      let times : k * s.part ≡ k * 0 = ap (λ m. k * m) (omega arith) in
      let low : s.whole * sum_by s.score pasts ≡ 0 * sum_by s.score pasts = ap (λ m. m * sum_by s.score pasts) e in omega arith

  none-few : s.whole ≤ 0 → (k d : ℕ) → deviating s t k n d * (4 * square d) ≤ k * square (s.whole * s.top) * word_count ^ (n * k)
  none-few none k d =
      let few = markov word_count n k (square d) (λ pasts. nat_le d (deviation s t k pasts)) (λ pasts. 0)
      (λ pasts so passed.
      (let reached = leb-true d (deviation s t k pasts) passed in
      let off = none-off none k pasts in
      let e : d * d ≡ 0 * d = ap (λ m. m * d) (omega arith) in omega arith)) in
      let all = (sum_lists-is word_count n k).none in omega arith

  range-few : (k d : ℕ) → deviating s t k n d * (4 * square d) ≤ k * square (s.whole * s.top) * word_count ^ (n * k)
  range-few k d = elim (cases_lt 0 s.whole) [ inl some ↦ some-few some k d | inr none ↦ none-few none k d ]

  pub has-near : HasNear n s t
  has-near = record {
    range = range-few;
    plain = λ k e some. plain-of s.whole (deviating s t k n (s.whole * e)) e k s.top (word_count ^ (n * k)) some (range-few k (s.whole * e));
  }

-- ---- means of samples

-- w pasts for each state
near-of : (w s c b g q k v e : ℕ) → 1 ≤ w → q ≡ w * s → e ≡ w * g → b * (c * q) ≤ k * e * v → b * (s * c) ≤ k * g * v
near-of w s c b g q k v e some all each few = le_of_mul-le-mul_left (omega (arith, rw (all, each) at few)) some

near-none : (b s c z : ℕ) → s ≤ 0 → b * (s * c) ≤ z
near-none b s c z none = (let e : s ≡ 0 = omega arith in let f : b * (s * c) ≡ b * (0 * c) = ap (λ m. b * (m * c)) e in omega arith)

-- sums of numbers that are each greater by low
sums-shift : (g h : Words → ℕ) (low : ℕ) → ((past : Words) → g past ≡ h past + low) → (pasts : List Words) → sum_by g pasts ≡ sum_by h pasts + length pasts * low
sums-shift g h low shift pasts =
    sum-same (λ (f : Words → ℕ). sum_by f pasts) (sum_by-is pasts) g (λ past. h past + low) shift ∙ ((sum_by-is pasts).more h (λ past. low) ∙ ap (λ m. sum_by h pasts + m) (sum_by-constant pasts low))

-- samples that all states reach, with values from low to high
module _ (chain : Chain) (sample : Words → Outcome) (n : ℕ) (is : IsChain chain) (reaches : Reaches chain sample n)
    (weight value : List ℕ → ℕ) (low high : ℕ) (measured : IsMeasured chain weight value low high) where
  -- the value where a run ends, times the sum of the weights
  abbrev ending : List ℕ → Words → ℕ
  ending x past = whole chain weight * value (end_of chain past n x)

  abbrev ending_draw : (ℕ → ℕ) → ℕ
  ending_draw = draw (weighted chain weight) (weighted-is chain weight) (Own chain) (weighted-order chain weight) n ending

  -- where the weights balance, the pasts change nothing
  still : (g : ℕ → ℕ) → ending_draw g ≡ word_count ^ n * weighted chain weight (λ x. g (whole chain weight * value x))
  still g = weighted-pasts chain weight is n (λ y. g (whole chain weight * value y)) measured.balanced

  ones : ending_draw (λ m. 1) ≡ word_count ^ n * whole chain weight
  ones = still (λ m. 1) ∙ ap (λ m. word_count ^ n * m) (weighted-constant chain weight 1 ∙ omega arith)

  mean : ending_draw (λ m. m) ≡ ending_draw (λ m. 1) * weighted chain weight value
  mean =
      let out = sum-times (weighted chain weight) (weighted-is chain weight) (whole chain weight) value in
      still (λ m. m) ∙ rw (out, ones) (omega arith)

  variance : ending_draw (λ m. gap m (weighted chain weight value)) ≡ word_count ^ n * spread chain weight value
  variance =
      let s = whole chain weight in
      let v = weighted chain weight value in
      still (λ m. gap m v)
      ∙ ap (λ m. word_count ^ n * m) (sum-same (weighted chain weight) (weighted-is chain weight) (λ x. gap (s * value x) v) (λ x. square (outside (s * value x) (s * value x) v)) (λ x. gap-is (s * value x) v))

  far-few : (k d : ℕ) → far sample n chain weight value low high k d * (whole chain weight * square d) ≤ k * spread chain weight value * word_count ^ (n * k)
  far-few k d =
      let s = whole chain weight in
      let v = weighted chain weight value in
      elim (cases_lt 0 s) [
        | inl some ↦ near-of (word_count ^ n) s (square d) (far sample n chain weight value low high k d) (spread chain weight value) (ending_draw (λ m. 1)) k (word_count ^ (n * k)) (ending_draw (λ m. gap m v))
            (one-le-pow n word_count some-words) ones variance
            (off-few (weighted chain weight) (weighted-is chain weight) (Own chain) (weighted-order chain weight) n ending s (λ past. value_or low value (sample past)) (λ past. value_or high value (sample past))
            (λ x past own. mul-le-mul_left s (end-bounds is reaches measured x past own).1)
            (λ x past own. mul-le-mul_left s (end-bounds is reaches measured x past own).2) v mean (let one = weighted-constant chain weight 1 in omega arith) k d)
        | inr none ↦ near-none (far sample n chain weight value low high k d) s (square d) (k * spread chain weight value * word_count ^ (n * k)) none
      ]

  -- as far off as the surplus and the deficit are
  far-deviating : (k d : ℕ) → far sample n chain weight value low high k d ≤ deviating (surplus sample chain weight value low high) (deficit sample chain weight value low high) k n d
  far-deviating k d =
      let s = whole chain weight in
      let v = weighted chain weight value in
      let up = surplus sample chain weight value low high in
      let down = deficit sample chain weight value low high in
      let lows : Words → ℕ = λ past. value_or low value (sample past) in
      let highs : Words → ℕ = λ past. value_or high value (sample past) in
      let some = is.finite.some in
      let order = range-order is reaches measured in
      let sides : (other : ℕ) → low ≤ other → other ≤ high → (past : Words) → (low ≤ value_or other value (sample past)) × (value_or other value (sample past) ≤ high) =
      λ other from to past.
      (let end = end_of chain past n some.0 in
      let kept = end_of-keeps chain past n some.0 is.finite some.1 in
      or-between (sample past) end value other low high (measured.above end kept) (measured.below end kept) from to (reaches.each past some.0 some.1)) in
      let least = under-weighted chain weight value low measured.above in
      count-order word_count n k (λ pasts. nat_le d (distance sample n chain weight value low high k pasts)) (λ pasts. nat_le d (deviation up down k pasts))
      (λ pasts so passed.
      (let reached = leb-true d (distance sample n chain weight value low high k pasts) passed in
      let a = sum_by up.score pasts in
      let b = sum_by (λ past. up.top - down.score past) pasts in
      let first : sum_by lows pasts ≡ a + length pasts * low = sums-shift lows up.score low (λ past. (let above = (sides low (omega arith) order past).0 in omega arith)) pasts in
      let last : sum_by highs pasts ≡ b + length pasts * low = sums-shift highs (λ past. up.top - down.score past) low (λ past. (let both = sides high order (omega arith) past in let above = both.0 in let below = both.1 in omega arith)) pasts in
      let left : s * sum_by lows pasts ≡ s * (a + k * low) = ap (λ m. s * m) (first ∙ ap (λ m. a + m * low) so) in
      let right : s * sum_by highs pasts ≡ s * (b + k * low) = ap (λ m. s * m) (last ∙ ap (λ m. b + m * low) so) in
      let part : v ≡ v - low * s + low * s = omega arith in
      let mean : k * v ≡ k * (v - low * s + low * s) = ap (λ m. k * m) part in
      le-leb d (deviation up down k pasts) (omega arith)))

  near : IsNear sample n chain weight value low high
  near =
      let few = has-near (sample-bounds is reaches measured) in
      record {
        variance = far-few;
        range = λ k d some. le_trans (mul-le-mul_right (4 * square d) (far-deviating k d)) (few.range k d);
        plain = λ k e some. le_trans (mul-le-mul_right (4 * square e) (far-deviating k (whole chain weight * e))) (few.plain k e some);
      }

pub balance-near : (chain : Chain) (sample : Words → Outcome) (n : ℕ) → IsChain chain → Reaches chain sample n → BalanceIsNear chain sample n
balance-near chain sample n is reaches = λ weight value low high measured. near chain sample n is reaches weight value low high measured

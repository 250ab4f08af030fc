-- Chebyshev's inequality, by counting: few lists of pasts have bounds whose sums are far from the mean of numbers between them.
use Rattle.std.specs.Prelude.{◌≡◌, ℕ, zero, suc, ◌+◌, ◌*◌, ◌^◌, ◌≤◌, List, [], ◌∷◌, nat_le}
use Rattle.std.specs.List.{sum_by}
use Rattle.std.proofs.Common.{ap, ◌∙◌, arith}
use Rattle.std.proofs.Math.Nat.{pow-zero, pow-succ', mul-le-mul_left, le_of_mul-le-mul_left, one-le-pow, le_trans}
use Rattle.std.proofs.lemmas.Nat.{mul-pow}
use Rattle.std.proofs.lemmas.Bool.{leb-true}
use Rattle.std.proofs.lemmas.List.Sums.{sum_by-cons}
use Rattle.psi_law.specs.Counting.{Words, sum_pasts}
use Rattle.psi_law.specs.Wheel.{word_count}
use Rattle.psi_law.proofs.SumsLemmas.{one_if, IsSum, sum-times, sum-constant, sum_pasts-is, pasts-ones, nested-is}
use Rattle.psi_law_many.specs.Lists.{sum_lists, count_lists}
use Rattle.psi_law_many.specs.Means.{square, outside}
use Rattle.psi_law_many.proofs.SquareLemmas.{gap, gap-is, gap-square, two-products, outside-order, square-order}
use Rattle.psi_law_many.proofs.DrawsLemmas.{draws, draws-variance}
use Rattle.psi_law_many.proofs.ListsLemmas.{sum_lists-is, lists-power, constant-if}

-- b lists whose squares d come to at most x over draws of r states, of q draws in all
squares-few : (b d q x r g k w : ℕ) → 1 ≤ r → r * (d * b) ≤ x → q * x ≡ k * g * (r * w) → b * (d * q) ≤ k * g * w
squares-few b d q x r g k w some under all = le_of_mul-le-mul_left (omega (arith, mul-le-mul_left q under, all)) some

-- the square g of one number x, up to z, less a mean v; and n squares of which the mean is v
gap-under-range : (x z v g : ℕ) → x ≤ z → g + 2 * (x * v) ≡ x * x + v * v → g + 2 * v * x ≤ z * x + v * v
gap-under-range x z v g small e = (let times = mul-le-mul_left x small in omega arith)

gaps-of : (g n v z : ℕ) → g + 2 * v * (n * v) ≤ z * (n * v) + v * v * n → 4 * g ≤ n * (z * z)
gaps-of g n v z under = (let two = mul-le-mul_left n (two-products z (2 * v)) in omega arith)

-- numbers of states and pasts, by a way to sum over the states; c times a low and a high number of each past are bounds of them
module _ {X : Type 0} (outer : (X → ℕ) → ℕ) (is : IsSum outer) (own : X → Type 0) (order : (g h : X → ℕ) → ((x : X) → own x → g x ≤ h x) → outer g ≤ outer h)
    (n : ℕ) (number : X → Words → ℕ) where
  -- one draw: a state, and a past
  abbrev pub draw : (ℕ → ℕ) → ℕ
  draw g = outer (λ x. sum_pasts word_count n (λ past. g (number x past)))

  pub draw-is : IsSum draw
  draw-is = nested-is outer (sum_pasts word_count n) number is (sum_pasts-is word_count n)

  pub draw-ones : draw (λ m. 1) ≡ word_count ^ n * outer (λ x. 1)
  draw-ones = sum-constant outer is (sum_pasts word_count n (λ past. 1)) ∙ ap (λ m. m * outer (λ x. 1)) (pasts-ones word_count n)

  -- no variance exceeds a quarter of the square of the range (Popoviciu's inequality)
  pub gaps-range : (z v : ℕ) → ((x : X) (past : Words) → own x → number x past ≤ z) → draw (λ m. m) ≡ draw (λ m. 1) * v → 4 * draw (λ m. gap m v) ≤ draw (λ m. 1) * square z
  gaps-range z v small mean =
      let q = draw (λ m. 1) in
      let under = order (λ x. sum_pasts word_count n (λ past. gap (number x past) v + 2 * v * number x past)) (λ x. sum_pasts word_count n (λ past. z * number x past + v * v))
      (λ x member. (sum_pasts-is word_count n).order (λ past. gap (number x past) v + 2 * v * number x past) (λ past. z * number x past + v * v)
      (λ past. gap-under-range (number x past) z v (gap (number x past) v) (small x past member) (gap-square (number x past) v))) in
      let left = draw-is.more (λ m. gap m v) (λ m. 2 * v * m) in
      let left-mean = rw mean at (sum-times draw draw-is (2 * v) (λ m. m)) in
      let right = draw-is.more (λ m. z * m) (λ m. v * v) in
      let right-mean = rw mean at (sum-times draw draw-is z (λ m. m)) in
      let right-own = sum-constant draw draw-is (v * v) in
      gaps-of (draw (λ m. gap m v)) q v z (omega arith)

  module _ (c : ℕ) (low high : Words → ℕ) (least : (x : X) (past : Words) → own x → c * low past ≤ number x past) (most : (x : X) (past : Words) → own x → number x past ≤ c * high past) where
    -- what is at most a function of each number between the two sums of a list is at most the sum of the function over draws
    lists-under : (k : ℕ) (h : List Words → ℕ) (g : ℕ → ℕ)
        → ((pasts : List Words) (t : ℕ) → c * sum_by low pasts ≤ t → t ≤ c * sum_by high pasts → h pasts ≤ g t)
        → outer (λ x. 1) ^ k * sum_lists word_count n k h ≤ draws draw k g
    lists-under zero h g under =
        let first = under [] 0 (omega arith) (omega arith) in
        rw (pow-zero (outer (λ x. 1))) (omega arith)
    lists-under (suc k) h g under =
        let s = outer (λ x. 1) in
        let sum = sum_pasts word_count n in
        let inner : Words → ℕ = λ past. sum_lists word_count n k (λ pasts. h (past ∷ pasts)) in
        let rest : X → Words → ℕ = λ x past. draws draw k (λ t. g (number x past + t)) in
        let out = sum-times sum (sum_pasts-is word_count n) (s ^ k) inner in
        let each = order (λ x. s ^ k * sum inner) (λ x. sum (rest x))
        (λ x member.
        (let more = (sum_pasts-is word_count n).order (λ past. s ^ k * inner past) (rest x)
        (λ past. lists-under k (λ pasts. h (past ∷ pasts)) (λ t. g (number x past + t))
        (λ pasts t below above.
        (let least-first = least x past member in
        let most-first = most x past member in
        under (past ∷ pasts) (number x past + t) (rw (sum_by-cons low past pasts) (omega arith)) (rw (sum_by-cons high past pasts) (omega arith))))) in
        omega arith)) in
        let constant = sum-constant outer is (s ^ k * sum inner) in
        rw (pow-succ' s k) (omega arith)

    -- how far k times the mean v is outside the sums of a list
    abbrev pub off : ℕ → ℕ → List Words → ℕ
    off v k pasts = outside (c * sum_by low pasts) (c * sum_by high pasts) (k * v)

    -- lists that are far off have large squares
    off-under : (v k d : ℕ) → outer (λ x. 1) ^ k * (square d * count_lists word_count n k (λ pasts. nat_le d (off v k pasts))) ≤ draws draw k (λ t. gap t (k * v))
    off-under v k d =
        let out = sum-times (sum_lists word_count n k) (sum_lists-is word_count n k) (square d) (λ pasts. one_if (nat_le d (off v k pasts))) in
        rw out at (lists-under k (λ pasts. square d * one_if (nat_le d (off v k pasts))) (λ t. gap t (k * v))
        (λ pasts t below above. constant-if (square d) (gap t (k * v)) (nat_le d (off v k pasts))
        (λ so. rw (gap-is t (k * v)) (square-order (le_trans (leb-true d (off v k pasts) so) (outside-order (c * sum_by low pasts) (c * sum_by high pasts) (k * v) t below above))))))

    pub off-few : (v : ℕ) → draw (λ m. m) ≡ draw (λ m. 1) * v → 1 ≤ outer (λ x. 1) → (k d : ℕ)
        → count_lists word_count n k (λ pasts. nat_le d (off v k pasts)) * (square d * draw (λ m. 1)) ≤ k * draw (λ m. gap m v) * word_count ^ (n * k)
    off-few v mean some k d =
        let s = outer (λ x. 1) in
        let g = draw (λ m. gap m v) in
        let power : draw (λ m. 1) ^ k ≡ s ^ k * word_count ^ (n * k) = ap (λ m. m ^ k) draw-ones ∙ (mul-pow (word_count ^ n) s k ∙ (ap (λ m. m * s ^ k) (lists-power word_count n k) ∙ omega arith)) in
        squares-few (count_lists word_count n k (λ pasts. nat_le d (off v k pasts))) (square d) (draw (λ m. 1)) (draws draw k (λ t. gap t (k * v))) (s ^ k) g k (word_count ^ (n * k))
        (one-le-pow k s some) (off-under v k d) (draws-variance draw draw-is v mean k ∙ ap (λ m. k * g * m) power)

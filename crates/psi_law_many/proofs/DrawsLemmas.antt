-- Sums over k independent draws: the variance of their sum is k times that of one.
use Rattle.std.specs.Prelude.{◌≡◌, ℕ, zero, suc, ◌+◌, ◌*◌, ◌^◌, refl}
use Rattle.std.proofs.Common.{ap, sym, ◌∙◌, arith}
use Rattle.std.proofs.Math.Nat.{pow-zero, pow-suc}
use Rattle.psi_law.proofs.SumsLemmas.{IsSum, sum-same, sum-times, sum-constant, nested-is}
use Rattle.psi_law_many.proofs.SquareLemmas.{gap, gap-add, gap-same}

-- one draw: a way to sum a function of its number
module _ (draw : (ℕ → ℕ) → ℕ) where
  -- k draws, one after the other: the sum of a function of the sum of their numbers
  abbrev pub draws : ℕ → (ℕ → ℕ) → ℕ
  draws zero g = g 0
  draws (suc k) g = draw (λ s. draws k (λ t. g (s + t)))

  module _ (is : IsSum draw) where
    pub draws-is : (k : ℕ) → IsSum (draws k)
    draws-is zero = record { none = refl; more = λ g h. refl; order = λ g h each. each 0 }
    draws-is (suc k) = nested-is draw (draws k) (λ s t. s + t) is (draws-is k)

    -- how many there are
    pub draws-ones : (k : ℕ) → draws k (λ t. 1) ≡ draw (λ s. 1) ^ k
    draws-ones zero = sym (pow-zero (draw (λ s. 1)))
    draws-ones (suc k) = sum-constant draw is (draws k (λ t. 1)) ∙ (ap (λ m. m * draw (λ s. 1)) (draws-ones k) ∙ sym (pow-suc (draw (λ s. 1)) k))

    draws-constant : (k c : ℕ) → draws k (λ t. c) ≡ c * draw (λ s. 1) ^ k
    draws-constant k c = sum-constant (draws k) (draws-is k) c ∙ ap (λ m. c * m) (draws-ones k)

    -- the mean of one draw is v
    module _ (v : ℕ) (mean : draw (λ s. s) ≡ draw (λ s. 1) * v) where
      -- that of k draws is k times v
      mean-after : (k s : ℕ) → draws k (λ t. t) ≡ k * v * draw (λ s. 1) ^ k → draws k (λ t. s + t) ≡ draw (λ s. 1) ^ k * s + k * v * draw (λ s. 1) ^ k
      mean-after k s rest = (let more = (draws-is k).more (λ t. s) (λ t. t) in let own = draws-constant k s in omega arith)

      draws-mean : (k : ℕ) → draws k (λ t. t) ≡ k * v * draw (λ s. 1) ^ k
      draws-mean zero = omega arith
      draws-mean (suc k) =
          let q = draw (λ s. 1) in
          let p = q ^ k in
          let inner = sum-same draw is (λ s. draws k (λ t. s + t)) (λ s. p * s + k * v * p) (λ s. mean-after k s (draws-mean k)) in
          let more = is.more (λ s. p * s) (λ s. k * v * p) in
          let first = rw mean at (sum-times draw is p (λ s. s)) in
          let rest = sum-constant draw is (k * v * p) in
          rw (pow-suc q k) (omega arith)

      -- the cross terms of the squares cancel, for each number of the first draw
      gaps-after : (k s : ℕ) → draws k (λ t. gap (s + t) (v + k * v)) ≡ draw (λ s. 1) ^ k * gap s v + draws k (λ t. gap t (k * v))
      gaps-after k s =
          let b = k * v in
          let p = draw (λ s. 1) ^ k in
          let way = draws-is k in
          let same = sum-same (draws k) way (λ t. gap (s + t) (v + b) + (2 * b * s + 2 * v * t)) (λ t. gap s v + gap t b + (2 * s * t + 2 * v * b)) (λ t. gap-add s v t b) in
          let left = way.more (λ t. gap (s + t) (v + b)) (λ t. 2 * b * s + 2 * v * t) in
          let left-more = way.more (λ t. 2 * b * s) (λ t. 2 * v * t) in
          let left-own = draws-constant k (2 * b * s) in
          let left-mean = rw (draws-mean k) at (sum-times (draws k) way (2 * v) (λ t. t)) in
          let right = way.more (λ t. gap s v + gap t b) (λ t. 2 * s * t + 2 * v * b) in
          let right-both = way.more (λ t. gap s v) (λ t. gap t b) in
          let right-gap = draws-constant k (gap s v) in
          let right-more = way.more (λ t. 2 * s * t) (λ t. 2 * v * b) in
          let right-own = draws-constant k (2 * v * b) in
          let right-mean = rw (draws-mean k) at (sum-times (draws k) way (2 * s) (λ t. t)) in
          omega arith

      gaps-next : (k : ℕ) → draws (suc k) (λ t. gap t (suc k * v)) ≡ draw (λ s. 1) ^ k * draw (λ s. gap s v) + draws k (λ t. gap t (k * v)) * draw (λ s. 1)
      gaps-next k =
          let e : suc k * v ≡ v + k * v = omega arith in
          let p = draw (λ s. 1) ^ k in
          let d = draws k (λ t. gap t (k * v)) in
          ap (λ m. draws (suc k) (λ t. gap t m)) e
          ∙ (sum-same draw is (λ s. draws k (λ t. gap (s + t) (v + k * v))) (λ s. p * gap s v + d) (gaps-after k)
          ∙ (is.more (λ s. p * gap s v) (λ s. d)
          ∙ (ap (λ m. m + draw (λ s. d)) (sum-times draw is p (λ s. gap s v)) ∙ ap (λ m. p * draw (λ s. gap s v) + m) (sum-constant draw is d))))

      pub draws-variance : (k : ℕ) → draw (λ s. 1) * draws k (λ t. gap t (k * v)) ≡ k * draw (λ s. gap s v) * draw (λ s. 1) ^ k
      draws-variance zero =
          let e : zero * v ≡ 0 = omega arith in
          rw (e, gap-same 0) (omega arith)
      draws-variance (suc k) =
          let q = draw (λ s. 1) in
          let g = draw (λ s. gap s v) in
          let d = draws k (λ t. gap t (k * v)) in
          let rest : q * d * q ≡ k * g * q ^ k * q = ap (λ m. m * q) (draws-variance k) in
          rw (gaps-next k, pow-suc q k) (omega arith)

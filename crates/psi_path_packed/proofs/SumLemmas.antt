-- Sums over the numbers below one.
use Rattle.std.specs.Prelude.{◌≡◌, ℕ, zero, suc, ◌<◌, ℤ, pos, ◌+ℤ◌, refl}
use Rattle.std.proofs.Common.{inl, inr, ap, ap₂, ◌∙◌, subst, arith}
use Rattle.std.proofs.lemmas.Bool.{cases_lt}
use Rattle.psi_path.specs.Sums.{sum_until, integers_until}
use Rattle.psi_path_packed.specs.Rises.{sum_below}
use Rattle.psi_path_packed.proofs.IntegerLemmas.{plus-none, swapped, grouped}

-- sums of what is the same below a number
pub below-same : (g h : ℕ → ℤ) (n : ℕ) → ((e : ℕ) → e < n → h e ≡ g e) → sum_below h n ≡ sum_below g n
below-same g h zero same = refl
below-same g h (suc n) same = ap₂ ◌+ℤ◌ (below-same g h n (λ e small. same e (omega arith))) (same n (omega arith))

-- and where one of the terms is more
pub below-more : (g h : ℕ → ℤ) (n e : ℕ) (d : ℤ) → e < n → h e ≡ g e +ℤ d → ((i : ℕ) → (e ≡ i → ⊥) → h i ≡ g i) → sum_below h n ≡ sum_below g n +ℤ d
below-more g h zero e d small own others = absurd (omega arith)
below-more g h (suc n) e d small own others = elim (cases_lt e n) [
  | inl less ↦
      ap₂ ◌+ℤ◌ (below-more g h n e d less own others) (others n (λ same. omega (arith, same, less))) ∙ swapped (sum_below g n) d (g n)
  | inr more ↦
      (let same : e ≡ n = omega arith in
      let last : h n ≡ g n +ℤ d = subst (λ (i : ℕ). h i ≡ g i +ℤ d) same own in
      ap₂ ◌+ℤ◌ (below-same g h n (λ i few. others i (λ is. omega (arith, is, same, few)))) last ∙ grouped (sum_below g n) (g n) d)
]

-- a sum of nothing
pub below-none : (g : ℕ → ℤ) (n : ℕ) → ((e : ℕ) → g e ≡ pos 0) → sum_below g n ≡ pos 0
below-none g zero none = refl
below-none g (suc n) none = ap₂ ◌+ℤ◌ (below-none g n none) (none n) ∙ plus-none (pos 0)

-- sums of numbers are sums of integers
pub integers-of : (g : ℕ → ℕ) (n : ℕ) → integers_until (λ k. pos (g k)) n ≡ pos (sum_until g n)
integers-of g zero = refl
integers-of g (suc n) = ap (λ z. z +ℤ pos (g (suc n))) (integers-of g n)

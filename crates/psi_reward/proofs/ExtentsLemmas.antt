-- The least and the greatest of the values of a list of states.
use Rattle.std.specs.Prelude.{◌≡◌, ℕ, ℤ, ◌≤ℤ◌, List, [], ◌∷◌, map, refl}
use Rattle.std.specs.Int.{int_min, int_max}
use Rattle.std.proofs.Common.{◌⊎◌, inl, inr, ap, sym, ◌∙◌, subst, arith}
use Rattle.std.proofs.lemmas.Int.{ints}
use Rattle.psi_state.specs.Members.{In}
use Rattle.psi_reward.specs.Ranges.{least, greatest, IsReached}
use Rattle.psi_reward.specs.Spans.{IsRange}
use Rattle.psi_reward.proofs.WholeLemmas.{int_min-left, int_min-right, int_min-is_left, int_min-is_right, int_max-left, int_max-right, int_max-is_left, int_max-is_right, lesser}

-- the least of values, or the greatest: what joins the first with that of the rest, and is one of the two and beyond both
module _ (extreme : List ℤ → ℤ) (join : ℤ → ℤ → ℤ) (Beyond : ℤ → ℤ → Type 0) (one : (z : ℤ) → extreme (z ∷ []) ≡ z)
    (more : (z y : ℤ) (ys : List ℤ) → extreme (z ∷ y ∷ ys) ≡ join z (extreme (y ∷ ys))) (own : (a b : ℤ) → a ≡ b → Beyond a b) (left : (a b : ℤ) → Beyond (join a b) a)
    (right : (a b : ℤ) → Beyond (join a b) b) (through : (a b c : ℤ) → Beyond a b → Beyond b c → Beyond a c) (either : (a b : ℤ) → (join a b ≡ a) ⊎ (join a b ≡ b))
    (both : (a b : ℤ) → Beyond a b → Beyond b a → a ≡ b) (f : List ℕ → ℤ) where
  extreme-beyond : (z x : List ℕ) (xs : List (List ℕ)) → In z (x ∷ xs) → Beyond (extreme (map f (x ∷ xs))) (f z)
  extreme-beyond z x [] member = elim member [ inl e ↦ own (extreme (f x ∷ [])) (f z) (one (f x) ∙ ap f (sym e)) | inr none ↦ absurd none ]
  extreme-beyond z x (y ∷ ys) member =
      let rest = extreme (map f (y ∷ ys)) in
      subst (λ k. Beyond k (f z)) (sym (more (f x) (f y) (map f ys)))
      (elim member [
        | inl e ↦ subst (λ k. Beyond (join (f x) rest) k) (ap f (sym e)) (left (f x) rest)
        | inr t ↦ through (join (f x) rest) rest (f z) (right (f x) rest) (extreme-beyond z y ys t)
      ])

  extreme-reached : (x : List ℕ) (xs : List (List ℕ)) → IsReached f (x ∷ xs) (extreme (map f (x ∷ xs)))
  extreme-reached x [] = (x, inl refl, sym (one (f x)))
  extreme-reached x (y ∷ ys) =
      let found = extreme-reached y ys in
      elim (either (f x) (extreme (map f (y ∷ ys)))) [
        | inl first ↦ (x, inl refl, sym (more (f x) (f y) (map f ys) ∙ first))
        | inr second ↦ (found.0, inr found.1, found.2 ∙ sym (more (f x) (f y) (map f ys) ∙ second))
      ]

  -- what is beyond all values and reached is it
  extreme-is : (xs : List (List ℕ)) (z : ℤ) → ((x : List ℕ) → In x xs → Beyond z (f x)) → IsReached f xs z → z ≡ extreme (map f xs)
  extreme-is [] z beyond at = absurd (at.1)
  extreme-is (x ∷ xs) z beyond at =
      let found = extreme-reached x xs in
      both z (extreme (map f (x ∷ xs))) (subst (λ k. Beyond z k) found.2 (beyond found.0 found.1))
      (subst (λ k. Beyond (extreme (map f (x ∷ xs))) k) at.2 (extreme-beyond at.0 x xs at.1))

-- what is below all values and reached is the least
pub least-range : (f : List ℕ → ℤ) (xs : List (List ℕ)) (low high : ℤ) → IsRange f xs low high → low ≡ least (map f xs)
least-range f xs low high range =
    extreme-is least int_min (λ (a b : ℤ). a ≤ℤ b) (λ z. refl) (λ z y ys. refl) (λ a b e. omega (arith, ints)) int_min-left int_min-right (λ a b c p q. omega (arith, ints))
    (λ a b. elim (lesser a b) [ inl first ↦ inl (int_min-is_left a b first) | inr second ↦ inr (int_min-is_right a b second) ])
    (λ a b p q. omega (arith, ints)) f xs low range.above range.low_at

-- and what is above all and reached is the greatest
pub greatest-range : (f : List ℕ → ℤ) (xs : List (List ℕ)) (low high : ℤ) → IsRange f xs low high → high ≡ greatest (map f xs)
greatest-range f xs low high range =
    extreme-is greatest int_max (λ (a b : ℤ). b ≤ℤ a) (λ z. refl) (λ z y ys. refl) (λ a b e. omega (arith, ints)) int_max-left int_max-right (λ a b c p q. omega (arith, ints))
    (λ a b. elim (lesser b a) [ inl first ↦ inl (int_max-is_left a b first) | inr second ↦ inr (int_max-is_right a b second) ]) (λ a b p q. omega (arith, ints))
    f xs high range.below range.high_at

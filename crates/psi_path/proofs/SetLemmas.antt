-- Lists of which one place after another is set.
use Rattle.std.specs.Prelude.{◌≡◌, ℕ, ◌+◌, ◌<◌, List, length}
use Rattle.std.proofs.Common.{inl, inr, sym, subst, get_or, set, arith}
use Rattle.std.proofs.lemmas.Bool.{cases_lt}
use Rattle.std.proofs.lemmas.List.{get_or-set_same, get_or-set_other}

-- what holds of each place before one, and of the value to which that place is set, holds of each place up to it
pub set_below : {A : Type 0} (P : ℕ → A → Type 0) (xs : List A) (i : ℕ) (x d : A) → i < length xs → ((k : ℕ) → k < i → P k (get_or xs k d)) → P i x
    → (k : ℕ) → k < i + 1 → P k (get_or (set xs i x) k d)
set_below {A} P xs i x d small below own k few = elim (cases_lt k i) [
  | inl less ↦ subst (λ (a : A). P k a) (sym (get_or-set_other xs i k x d (λ same. omega (arith, same, less)))) (below k less)
  | inr more ↦ (let e : i ≡ k = omega arith in
      subst (λ (j : ℕ). P j (get_or (set xs i x) j d)) e (subst (λ (a : A). P i a) (sym (get_or-set_same xs i x d small)) own))
]

-- the places past it stay
pub set_past : {A : Type 0} (xs : List A) (i k : ℕ) (x d : A) → i < k → get_or (set xs i x) k d ≡ get_or xs k d
set_past xs i k x d past = get_or-set_other xs i k x d (λ same. omega (arith, same, past))

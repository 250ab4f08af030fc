-- Lemmas. Lists of queues in which none stands twice.
use Rattle.std.specs.Prelude.{◌≡◌, ℕ, zero, suc, ◌+◌, ◌-◌, ◌<◌, ◌≤◌, List, [], ◌∷◌, length, drop, slice_index, Bool, true, false, nat_eq, refl}
use Rattle.std.specs.List.{list_any}
use Rattle.std.proofs.Common.{inl, inr, sym, arith}
use Rattle.std.proofs.lemmas.List.{length-drop, get_or-drop}
use Rattle.std.proofs.lemmas.List.Folds.{list_any_at}
use Rattle.std.proofs.lemmas.Bool.{cases_order, eqb-false, or_left, or_right, or_from, or_parts}
use Rattle.psi_state.specs.Repeats.{repeats}

-- a number after the first places passes the test
pub any-at : (p : ℕ → Bool) (xs : List ℕ) (first i : ℕ) → first ≤ i → i < length xs → p (slice_index xs i) ≡ true → list_any p (drop first xs) ≡ true
any-at p xs first i low small is =
    let at : first + (i - first) ≡ i = omega arith in
    list_any_at p (drop first xs) (i - first) 0 (omega (arith, length-drop first xs)) (rw (get_or-drop first xs (i - first) 0, at) is)

-- none does
pub any-none : (p : ℕ → Bool) (xs : List ℕ) (first : ℕ) → ((i : ℕ) → first ≤ i → i < length xs → p (slice_index xs i) ≡ false) → list_any p (drop first xs) ≡ false
any-none p [] zero each = refl
any-none p [] (suc first) each = refl
any-none p (x ∷ xs) zero each = or_from (p x) (list_any p xs) (each 0 (omega arith) (omega arith)) (any-none p xs zero (λ i low small. each (suc i) (omega arith) (omega arith)))
any-none p (x ∷ xs) (suc first) each = any-none p xs first (λ i low small. each (suc i) (omega arith) (omega arith))

-- no number of the list passes the test
pub any-false : (p : ℕ → Bool) (xs : List ℕ) (i : ℕ) → list_any p xs ≡ false → i < length xs → p (slice_index xs i) ≡ false
any-false p [] i is small = absurd (omega arith)
any-false p (x ∷ xs) zero is small = (or_parts (p x) (list_any p xs) is).0
any-false p (x ∷ xs) (suc i) is small = any-false p xs i ((or_parts (p x) (list_any p xs) is).1) (omega arith)

-- a number stands again after its first place
pub repeats-at : (xs : List ℕ) (i : ℕ) → i < length xs → list_any (λ p. nat_eq p (slice_index xs i)) (drop (suc i) xs) ≡ true → repeats xs ≡ true
repeats-at [] i small is = absurd (omega arith)
repeats-at (x ∷ xs) zero small is = or_left (list_any (λ p. nat_eq p x) xs) (repeats xs) is
repeats-at (x ∷ xs) (suc i) small is = or_right (list_any (λ p. nat_eq p x) xs) (repeats xs) (repeats-at xs i (omega arith) is)

pub repeats-none : (xs : List ℕ) → ((i : ℕ) → i < length xs → list_any (λ p. nat_eq p (slice_index xs i)) (drop (suc i) xs) ≡ false) → repeats xs ≡ false
repeats-none [] each = refl
repeats-none (x ∷ xs) each = or_from (list_any (λ p. nat_eq p x) xs) (repeats xs) (each 0 (omega arith)) (repeats-none xs (λ i small. each (suc i) (omega arith)))

-- the numbers of a list without repeats differ
pub repeats-false : (xs : List ℕ) (i j : ℕ) → repeats xs ≡ false → i < j → j < length xs → slice_index xs i ≡ slice_index xs j → ⊥
repeats-false [] i j is less small same = absurd (omega arith)
repeats-false (x ∷ xs) i zero is less small same = absurd (omega arith)
repeats-false (x ∷ xs) zero (suc j) is less small same =
    let first = (or_parts (list_any (λ p. nat_eq p x) xs) (repeats xs) is).0 in
    eqb-false (slice_index xs j) x (any-false (λ p. nat_eq p x) xs j first (omega arith)) (sym same)
repeats-false (x ∷ xs) (suc i) (suc j) is less small same =
    repeats-false xs i j ((or_parts (list_any (λ p. nat_eq p x) xs) (repeats xs) is).1) (omega arith) (omega arith) same

pub apart-from_repeats : (xs : List ℕ) (i j : ℕ) → repeats xs ≡ false → i < length xs → j < length xs → slice_index xs i ≡ slice_index xs j → i ≡ j
apart-from_repeats xs i j is small other same =
    elim (cases_order i j) [
      | inl e ↦ e
      | inr rest ↦ elim rest [
        | inl less ↦ absurd (repeats-false xs i j is less other same)
        | inr more ↦ absurd (repeats-false xs j i is more small (sym same))
      ]
    ]

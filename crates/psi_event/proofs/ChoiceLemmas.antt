-- Lemmas. Choosing by place: a list from a number for each place, and finding the place at which something fails.
use Rattle.std.specs.Prelude.{◌≡◌, ℕ, zero, suc, ◌+◌, ◌<◌, ◌≤◌, List, [], ◌∷◌, length, slice_index, Option, Some, None, ◌⊎◌, refl}
use Rattle.std.proofs.Common.{inl, inr, ap, sym, ◌∙◌, subst, arith}
use Rattle.std.proofs.lemmas.Bool.{cases_lt, cases_eq}
use Rattle.std.proofs.lemmas.Option.{none-some}
use Rattle.psi_state.specs.State.{IsBelow}
use Rattle.psi_state.specs.Boxes.{IsBetween}
use Rattle.psi_event.specs.Choice.{first_some}

-- numbers that are chosen for each place by itself make up a list
pub choose_each : (P : ℕ → ℕ → Type 0) (n : ℕ) → ((p : ℕ) → p < n → (v : ℕ) × P p v)
    → (x : List ℕ) × (length x ≡ n) × ((p : ℕ) → p < n → P p (slice_index x p))
choose_each P zero each = ([], refl, λ p small. absurd (omega arith))
choose_each P (suc n) each =
    let first = each 0 (omega arith) in
    let rest = choose_each (λ p v. P (suc p) v) n (λ p small. each (suc p) (omega arith)) in
    (first.0 ∷ rest.0, ap suc rest.1, λ p small. placed P n first.0 rest.0 first.1 rest.2 p small)
  where
    placed : (P : ℕ → ℕ → Type 0) (n v : ℕ) (xs : List ℕ) → P 0 v → ((p : ℕ) → p < n → P (suc p) (slice_index xs p))
        → (p : ℕ) → p < suc n → P p (slice_index (v ∷ xs) p)
    placed P n v xs here there zero small = here
    placed P n v xs here there (suc p) small = there p (omega arith)

-- a state of a box with a number that is chosen for each queue by itself
pub choose-between : (P : ℕ → ℕ → Type 0) (l h : List ℕ) → IsBelow l h → ((p : ℕ) → p < length l → (v : ℕ) × (slice_index l p ≤ v) × (v ≤ slice_index h p) × P p v)
    → (x : List ℕ) × IsBetween l h x × ((p : ℕ) → p < length l → P p (slice_index x p))
choose-between P l h ordered each =
    let made = choose_each (λ p v. (slice_index l p ≤ v) × (v ≤ slice_index h p) × P p v) (length l)
    (λ p small. (let v = each p small in (v.0, (v.1, v.2, v.3)))) in (
      made.0,
      record {
        low = record { same_length = sym made.1; each = λ p small. (made.2 p small).0 };
        high = record { same_length = made.1 ∙ ordered.same_length; each = λ p small. (made.2 p (subst (λ n. p < n) made.1 small)).1 };
      },
      λ p small. (made.2 p small).2,
    )

-- one with given numbers in two queues, which may be one
pub choose-two : (l h : List ℕ) (q v p w : ℕ) → IsBelow l h → q < length l → p < length l → slice_index l q ≤ v → v ≤ slice_index h q
    → slice_index l p ≤ w → w ≤ slice_index h p → (p ≡ q → v ≡ w) → (x : List ℕ) × IsBetween l h x × (slice_index x q ≡ v) × (slice_index x p ≡ w)
choose-two l h q v p w ordered at_q at_p low high under over same =
    let made = choose-between (λ i n. (i ≡ q → n ≡ v) × (i ≡ p → n ≡ w)) l h ordered (λ i small. elim (cases_eq i q) [
      | inl e ↦ (v, subst (λ k. slice_index l k ≤ v) (sym e) low, subst (λ k. v ≤ slice_index h k) (sym e) high, (λ _. refl, λ d. same (sym d ∙ e)))
      | inr ne ↦ elim (cases_eq i p) [
        | inl d ↦ (w, subst (λ k. slice_index l k ≤ w) (sym d) under, subst (λ k. w ≤ slice_index h k) (sym d) over, (λ e. absurd (ne e), λ _. refl))
        | inr apart ↦ (slice_index l i, omega arith, ordered.each i small, (λ e. absurd (ne e), λ d. absurd (apart d)))
      ]
    ]) in
    (made.0, made.1, (made.2 q at_q).0 refl, (made.2 p at_p).1 refl)

-- either the first holds at each place below n, or there is one at which the second does
pub all_or_some : (P Q : ℕ → Type 0) (n : ℕ) → ((i : ℕ) → i < n → P i ⊎ Q i)
    → ((i : ℕ) → i < n → P i) ⊎ ((i : ℕ) × (i < n) × Q i)
all_or_some P Q zero each = inl (λ i small. absurd (omega arith))
all_or_some P Q (suc n) each =
    elim (all_or_some P Q n (λ i small. each i (omega arith))) [
      | inr found ↦ (let small : found.0 < n = found.1 in inr (found.0, omega arith, found.2))
      | inl all ↦ elim (each n (omega arith)) [
        | inr last ↦ inr (n, omega arith, last)
        | inl last ↦ inl (λ i small. elim (cases_lt i n) [
          | inl less ↦ all i less
          | inr more ↦ (let e : n ≡ i = omega arith in subst P e last)
        ])
      ]
    ]

-- an answer, or none
abbrev answer_of : {A : Type 0} → (o : Option A) → ((a : A) × (o ≡ Some a)) ⊎ (o ≡ None)
answer_of (Some a) = inl (a, refl)
answer_of None = inr refl

-- no answer where none of the numbers has one
pub first_some-none : {A : Type 0} (f : ℕ → Option A) (first n : ℕ) → ((i : ℕ) → first ≤ i → i < first + n → f i ≡ None)
    → first_some f first n ≡ None
unfolding first_some
first_some-none f first zero each = refl
first_some-none f first (suc n) each =
    rw (each first (omega arith) (omega arith)) (first_some-none f (suc first) n (λ i low high. each i (omega arith) (omega arith)))

-- the answer of the first number that has one
pub first_some-found : {A : Type 0} (f : ℕ → Option A) (first n i : ℕ) (a : A) → first ≤ i → i < first + n → f i ≡ Some a
    → ((j : ℕ) → first ≤ j → j < i → f j ≡ None) → first_some f first n ≡ Some a
unfolding first_some
first_some-found f first zero i a low high is before = absurd (omega arith)
first_some-found f first (suc n) i a low high is before =
    elim (cases_eq i first) [
      | inl e ↦ rw (← e, is)
      | inr ne ↦ rw (before first (omega arith) (omega arith))
          (first_some-found f (suc first) n i a (omega arith) (omega arith) is (λ j more less. before j (omega arith) less))
    ]

-- where there is no answer, no number has one
pub first_some-of_none : {A : Type 0} (f : ℕ → Option A) (first n : ℕ) → first_some f first n ≡ None
    → (i : ℕ) → first ≤ i → i < first + n → f i ≡ None
unfolding first_some
first_some-of_none f first zero is i low high = absurd (omega arith)
first_some-of_none f first (suc n) is i low high =
    elim (answer_of (f first)) [
      | inl found ↦ absurd (let there = rw found.1 at is in cc)
      | inr empty ↦ elim (cases_eq i first) [
        | inl e ↦ subst (λ j. f j ≡ None) (sym e) empty
        | inr ne ↦ first_some-of_none f (suc first) n (rw empty at is) i (omega arith) (omega arith)
      ]
    ]

-- where there is an answer, it is that of one of the numbers
pub first_some-of_found : {A : Type 0} (f : ℕ → Option A) (first n : ℕ) (a : A) → first_some f first n ≡ Some a
    → (i : ℕ) × (first ≤ i) × (i < first + n) × (f i ≡ Some a)
unfolding first_some
first_some-of_found f first zero a is = absurd (none-some a is)
first_some-of_found f first (suc n) a is =
    elim (answer_of (f first)) [
      | inl found ↦ (first, omega arith, omega arith, found.1 ∙ (rw found.1 at is))
      | inr empty ↦ (let rest = first_some-of_found f (suc first) n a (rw empty at is) in
          let low : suc first ≤ rest.0 = rest.1 in
          let high : rest.0 < suc first + n = rest.2 in
          (rest.0, omega arith, omega arith, rest.3))
    ]

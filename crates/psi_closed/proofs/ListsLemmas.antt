-- Lists that pass a test, and tests of the members of a list.
use Rattle.std.specs.Prelude.{◌≡◌, ℕ, List, [], ◌∷◌, filter, cond, Bool, true, false, refl}
use Rattle.std.specs.List.{list_any, list_all}
use Rattle.std.proofs.Common.{arith, inl, inr, sym, subst}
use Rattle.std.proofs.lemmas.Bool.{and_parts, and_from, or_left, or_right, or_cases, false≢true}
use Rattle.std.specs.declared.cmp.Ordering.TheVariants.{Less}
use Rattle.std.proofs.lemmas.Grind.{common_steps}
use Rattle.psi_closed_arcs.proofs.RowsLemmas.{In-cond, In-of_cond}
use Rattle.psi_state.specs.Members.{In}
use Rattle.psi_state.specs.Sets.{state_cmp}
use Rattle.psi_state.specs.Ascending.{IsRising}

-- what is in a list and passes the test is left
pub In-filter : {A : Type 0} (p : A → Bool) (x : A) (xs : List A) → In x xs → p x ≡ true → In x (filter p xs)
In-filter p x [] member passes = member
In-filter p x (y ∷ ys) member passes =
    In-cond (p y) x y (filter p ys) (elim member [
      | inl e ↦ inl (e, subst (λ z. p z ≡ true) e passes)
      | inr t ↦ inr (In-filter p x ys t passes)
    ])

-- what is left is in the list and passes
pub In-of_filter : {A : Type 0} (p : A → Bool) (x : A) (xs : List A) → In x (filter p xs) → In x xs × (p x ≡ true)
In-of_filter p x [] member = absurd member
In-of_filter p x (y ∷ ys) member =
    elim (In-of_cond (p y) x y (filter p ys) member) [
      | inl h ↦ (inl h.0, subst (λ z. p z ≡ true) (sym h.0) h.1)
      | inr t ↦ (let old = In-of_filter p x ys t in (inr old.0, old.1))
    ]

-- tests that agree on a list leave the same of it
pub filter-agree : {A : Type 0} (p q : A → Bool) (xs : List A) → ((x : A) → In x xs → p x ≡ q x) → filter p xs ≡ filter q xs
filter-agree p q [] each = refl
filter-agree p q (x ∷ xs) each = grind (arith, common_steps, (filter-agree p q xs (λ y member. each y (inr member))))

rising-cond : (b : Bool) (x : List ℕ) (rest : List (List ℕ)) → ((z : List ℕ) → In z rest → state_cmp x z ≡ Less) → IsRising rest
    → IsRising (cond b (x ∷ rest) rest)
rising-cond true x rest below rising = (below, rising)
rising-cond false x rest below rising = rising

-- what is left of an ascending list is ascending
pub filter-rising : (p : List ℕ → Bool) (xs : List (List ℕ)) → IsRising xs → IsRising (filter p xs)
filter-rising p [] rising = tt
filter-rising p (x ∷ xs) rising = grind (arith, common_steps, rising-cond, In-of_filter, (filter-rising p xs rising.1))

-- all members pass
pub list_all-true : {A : Type 0} (p : A → Bool) (xs : List A) (x : A) → list_all p xs ≡ true → In x xs → p x ≡ true
list_all-true p [] x all member = absurd member
list_all-true p (y ∷ ys) x all member =
    let parts = and_parts (p y) (list_all p ys) all in
    elim member [ inl e ↦ subst (λ z. p z ≡ true) (sym e) parts.0 | inr t ↦ list_all-true p ys x parts.1 t ]

pub list_all-each : {A : Type 0} (p : A → Bool) (xs : List A) → ((x : A) → In x xs → p x ≡ true) → list_all p xs ≡ true
list_all-each p [] each = refl
list_all-each p (x ∷ xs) each = and_from (p x) (list_all p xs) (each x (inl refl)) (list_all-each p xs (λ y member. each y (inr member)))

-- a member passes
pub list_any-found : {A : Type 0} (p : A → Bool) (xs : List A) (x : A) → In x xs → p x ≡ true → list_any p xs ≡ true
list_any-found p [] x member passes = absurd member
list_any-found p (y ∷ ys) x member passes =
    elim member [
      | inl e ↦ or_left (p y) (list_any p ys) (subst (λ z. p z ≡ true) e passes)
      | inr t ↦ or_right (p y) (list_any p ys) (list_any-found p ys x t passes)
    ]

pub list_any-some : {A : Type 0} (p : A → Bool) (xs : List A) → list_any p xs ≡ true → (x : A) × In x xs × (p x ≡ true)
list_any-some p [] any = absurd (false≢true any)
list_any-some p (y ∷ ys) any =
    elim (or_cases (p y) (list_any p ys) any) [
      | inl passes ↦ (y, inl refl, passes)
      | inr rest ↦ (let old = list_any-some p ys rest in (old.0, inr old.1, old.2))
    ]

-- tests that pass together are one
pub same-bool : (a b : Bool) → (a ≡ true → b ≡ true) → (b ≡ true → a ≡ true) → a ≡ b
same-bool true b there back = sym (there refl)
same-bool false true there back = back refl
same-bool false false there back = refl

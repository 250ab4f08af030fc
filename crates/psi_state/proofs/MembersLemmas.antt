-- Lemmas. Membership in a list, by recursion, with its laws for the lists that states are gathered in.
use Rattle.std.specs.Prelude.{◌≡◌, ℕ, zero, suc, ◌+◌, ◌<◌, ◌≤◌, List, [], ◌∷◌, ◌++◌, map, ◌⊎◌, refl}
use Rattle.std.specs.List.{flat_map}
use Rattle.std.proofs.Common.{inl, inr, ap, subst, arith}
use Rattle.std.proofs.lemmas.Bool.{cases_eq}
use Rattle.psi_state.specs.State.{numbers_from}
use Rattle.psi_state.specs.Members.{In}

pub In-append_left : {A : Type 0} (x : A) (xs ys : List A) → In x xs → In x (xs ++ ys)
In-append_left x [] ys h = absurd h
In-append_left x (z ∷ xs) ys h = elim h [ inl e ↦ inl e | inr t ↦ inr (In-append_left x xs ys t) ]

pub In-append_right : {A : Type 0} (x : A) (xs ys : List A) → In x ys → In x (xs ++ ys)
In-append_right x [] ys h = h
In-append_right x (z ∷ xs) ys h = inr (In-append_right x xs ys h)

pub In-append : {A : Type 0} (x : A) (xs ys : List A) → In x (xs ++ ys) → In x xs ⊎ In x ys
In-append x [] ys h = inr h
In-append x (z ∷ xs) ys h =
    elim h [
      | inl e ↦ inl (inl e)
      | inr t ↦ elim (In-append x xs ys t) [ inl l ↦ inl (inr l) | inr r ↦ inr r ]
    ]

pub In-map : {A B : Type 0} (f : A → B) (x : A) (xs : List A) → In x xs → In (f x) (map f xs)
In-map f x [] h = absurd h
In-map f x (y ∷ xs) h = elim h [ inl e ↦ inl (ap f e) | inr t ↦ inr (In-map f x xs t) ]

-- a member of the image of a list, with a member that it comes from
pub In-of_map : {A B : Type 0} (f : A → B) (z : B) (xs : List A) → In z (map f xs) → (x : A) × In x xs × (z ≡ f x)
In-of_map f z [] h = absurd h
In-of_map f z (y ∷ xs) h =
    elim h [
      | inl e ↦ (y, inl refl, e)
      | inr t ↦ (let found = In-of_map f z xs t in (found.0, inr found.1, found.2))
    ]

pub In-flat_map : {A B : Type 0} (f : A → List B) (x : A) (z : B) (xs : List A) → In x xs → In z (f x) → In z (flat_map f xs)
In-flat_map f x z [] h g = absurd h
In-flat_map f x z (y ∷ xs) h g =
    elim h [
      | inl e ↦ In-append_left z (f y) (flat_map f xs) (subst (λ w. In z (f w)) e g)
      | inr t ↦ In-append_right z (f y) (flat_map f xs) (In-flat_map f x z xs t g)
    ]

pub In-of_flat_map : {A B : Type 0} (f : A → List B) (z : B) (xs : List A) → In z (flat_map f xs) → (x : A) × In x xs × In z (f x)
In-of_flat_map f z [] h = absurd h
In-of_flat_map f z (y ∷ xs) h =
    elim (In-append z (f y) (flat_map f xs) h) [
      | inl here ↦ (y, inl refl, here)
      | inr t ↦ (let found = In-of_flat_map f z xs t in (found.0, inr found.1, found.2))
    ]

pub In-numbers_from : (v first n : ℕ) → first ≤ v → v < first + n → In v (numbers_from first n)
In-numbers_from v first zero low high = absurd (omega arith)
In-numbers_from v first (suc n) low high =
    elim (cases_eq v first) [
      | inl e ↦ inl e
      | inr ne ↦ inr (In-numbers_from v (suc first) n (omega arith) (omega arith))
    ]

pub In-of_numbers_from : (v first n : ℕ) → In v (numbers_from first n) → (first ≤ v) × (v < first + n)
In-of_numbers_from v first zero h = absurd h
In-of_numbers_from v first (suc n) h =
    elim h [
      | inl e ↦ (omega arith, omega arith)
      | inr t ↦ (let found = In-of_numbers_from v (suc first) n t in (omega arith, omega arith))
    ]

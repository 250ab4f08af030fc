-- Lemmas. Sets of states, written as ascending lists without repeats, and the image of a list under a function.
use Rattle.std.specs.Prelude.{◌≡◌, ℕ, List, [], ◌∷◌, map, ◌⊎◌, Some, None, refl}
use Rattle.std.specs.Ordering.{match_ordering}
use Rattle.std.specs.declared.cmp.Ordering.{Ordering}
use Rattle.std.specs.declared.cmp.Ordering.TheVariants.{Less, Equal, Greater}
use Rattle.std.specs.FinMap.{nat_cmp-IsAntisymmetric, slice_cmp-IsAntisymmetric}
use Rattle.std.proofs.Common.{inl, inr, ap, sym, ◌∙◌}
use Rattle.std.proofs.lemmas.Cmp.{tied_itself, nat_list_cmp_total}
use Rattle.psi_state.specs.Members.{In}
use Rattle.psi_state.proofs.MembersLemmas.{In-map, In-of_map}
use Rattle.psi_state.specs.Ascending.{HaveSame}
use Rattle.psi_state.proofs.SameLemmas.{same-itself, same-through, same-append, same-middle, same-there}
use Rattle.psi_state.specs.Sets.{state_cmp, insert_state, ascending, image, single}

pub same-from_cmp : (x y : List ℕ) → state_cmp x y ≡ Equal → x ≡ y
same-from_cmp x y tied = slice_cmp-IsAntisymmetric nat_cmp-IsAntisymmetric x y tied

same-match : (x y : List ℕ) (ys more : List (List ℕ)) (o : Ordering) → (o ≡ Equal → x ≡ y) → HaveSame more (x ∷ ys)
    → HaveSame (match_ordering o (x ∷ y ∷ ys) (y ∷ ys) (y ∷ more)) (x ∷ y ∷ ys)
same-match x y ys more Less tied rest = same-itself (x ∷ y ∷ ys)
same-match x y ys more Equal tied rest = same-there (y ∷ ys) x (inl (tied refl))
same-match x y ys more Greater tied rest = same-through (same-append (same-itself (y ∷ [])) rest) (same-middle (y ∷ []) x ys)

-- a set with one state more has that one and the others
pub same-insert_state : (x : List ℕ) (ys : List (List ℕ)) → HaveSame (insert_state x ys) (x ∷ ys)
same-insert_state x [] = same-itself (x ∷ [])
same-insert_state x (y ∷ ys) = same-match x y ys (insert_state x ys) (state_cmp x y) (same-from_cmp x y) (same-insert_state x ys)

pub In-insert_state : (z x : List ℕ) (ys : List (List ℕ)) → (z ≡ x) ⊎ In z ys → In z (insert_state x ys)
In-insert_state z x ys member = (same-insert_state x ys).back z member

pub In-of_insert_state : (z x : List ℕ) (ys : List (List ℕ)) → In z (insert_state x ys) → (z ≡ x) ⊎ In z ys
In-of_insert_state z x ys member = (same-insert_state x ys).there z member

-- a set has the members of the list that it is made of
pub same-ascending : (xs : List (List ℕ)) → HaveSame (ascending xs) xs
same-ascending [] = same-itself []
same-ascending (x ∷ xs) = same-through (same-insert_state x (ascending xs)) (same-append (same-itself (x ∷ [])) (same-ascending xs))

pub In-ascending : (z : List ℕ) (xs : List (List ℕ)) → In z xs → In z (ascending xs)
In-ascending z xs member = (same-ascending xs).back z member

pub In-of_ascending : (z : List ℕ) (xs : List (List ℕ)) → In z (ascending xs) → In z xs
In-of_ascending z xs member = (same-ascending xs).there z member

pub In-image : (f : List ℕ → List ℕ) (x : List ℕ) (xs : List (List ℕ)) → In x xs → In (f x) (image f xs)
In-image f x xs member = In-ascending (f x) (map f xs) (In-map f x xs member)

pub In-of_image : (f : List ℕ → List ℕ) (z : List ℕ) (xs : List (List ℕ)) → In z (image f xs) → (x : List ℕ) × In x xs × (z ≡ f x)
In-of_image f z xs member = In-of_map f z xs (In-of_ascending z (map f xs) member)

-- where a list has one member, each member is that one
pub single-each : {A : Type 0} (xs : List A) (s x : A) → single xs ≡ Some s → In x xs → x ≡ s
single-each [] s x one member = absurd member
single-each (y ∷ []) s x one member = elim member [ inl e ↦ (let same : y ≡ s = cc in e ∙ same) | inr none ↦ absurd none ]
single-each (y ∷ z ∷ ys) s x one member = absurd cc

pub insert_state-same : (s : List ℕ) → insert_state s (s ∷ []) ≡ s ∷ []
insert_state-same s =
    let tied : state_cmp s s ≡ Equal = tied_itself nat_list_cmp_total s in
    ap (λ o. match_ordering o (s ∷ s ∷ []) (s ∷ []) (s ∷ s ∷ [])) tied

-- a list of one state over and over is, as a set, that state
pub ascending-same : (s x : List ℕ) (xs : List (List ℕ)) → ((y : List ℕ) → In y (x ∷ xs) → y ≡ s) → ascending (x ∷ xs) ≡ s ∷ []
ascending-same s x [] each = ap (λ (y : List ℕ). y ∷ []) (each x (inl refl))
ascending-same s x (y ∷ xs) each =
    ap (λ (w : List ℕ). insert_state w (ascending (y ∷ xs))) (each x (inl refl))
    ∙ (ap (λ (ws : List (List ℕ)). insert_state s ws) (ascending-same s y xs (λ z member. each z (inr member)))
    ∙ insert_state-same s)

-- the image is one state exactly where the function makes that state of each state of the list
pub single-image : (f : List ℕ → List ℕ) (s x : List ℕ) (xs : List (List ℕ)) → In x xs → ((y : List ℕ) → In y xs → f y ≡ s) → single (image f xs) ≡ Some s
single-image f s x [] member each = absurd member
single-image f s x (y ∷ ys) member each =
    ap (λ (ws : List (List ℕ)). single ws) (ascending-same s (f y) (map f ys) (λ z found.
    (let from = In-of_map f z (y ∷ ys) found in from.2 ∙ each from.0 from.1)))

-- a list with two different members doesn't have one
pub single-apart : {A : Type 0} (xs : List A) (x y : A) → In x xs → In y xs → (x ≡ y → ⊥) → single xs ≡ None
single-apart [] x y first second apart = absurd first
single-apart (z ∷ []) x y first second apart =
    elim first [ inl e ↦ elim second [ inl d ↦ absurd (apart (e ∙ sym d)) | inr none ↦ absurd none ] | inr none ↦ absurd none ]
single-apart (z ∷ w ∷ xs) x y first second apart = refl

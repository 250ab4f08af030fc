-- Lemmas. Lists with the same members.
use Rattle.std.specs.Prelude.{List, [], ◌∷◌, ◌++◌, map}
use Rattle.std.proofs.Common.{inl, inr, sym, subst}
use Rattle.psi_state.specs.Members.{In}
use Rattle.psi_state.proofs.MembersLemmas.{In-append, In-append_left, In-append_right, In-map, In-of_map}
use Rattle.psi_state.specs.Ascending.{HaveSame}

pub same-itself : {A : Type 0} (xs : List A) → HaveSame xs xs
same-itself xs = record { there = λ x member. member; back = λ x member. member }

pub same-back : {A : Type 0} {xs ys : List A} → HaveSame xs ys → HaveSame ys xs
same-back same = record { there = same.back; back = same.there }

pub same-through : {A : Type 0} {xs ys zs : List A} → HaveSame xs ys → HaveSame ys zs → HaveSame xs zs
same-through first second = record {
  there = λ x member. second.there x (first.there x member);
  back = λ x member. first.back x (second.back x member);
}

pub same-append : {A : Type 0} {xs ys us vs : List A} → HaveSame xs ys → HaveSame us vs → HaveSame (xs ++ us) (ys ++ vs)
same-append {A} {xs} {ys} {us} {vs} first second = record {
  there = joined xs ys us vs first.there second.there;
  back = joined ys xs vs us first.back second.back;
}
  where
    joined : (own others left right : List A) → ((z : A) → In z own → In z others) → ((z : A) → In z left → In z right) → (z : A) → In z (own ++ left) → In z (others ++ right)
    joined own others left right first second z member =
        elim (In-append z own left member) [ inl here ↦ In-append_left z others right (first z here) | inr there ↦ In-append_right z others right (second z there) ]

pub same-swap : {A : Type 0} (xs ys : List A) → HaveSame (xs ++ ys) (ys ++ xs)
same-swap {A} xs ys = record { there = swapped xs ys; back = swapped ys xs }
  where
    swapped : (us vs : List A) (z : A) → In z (us ++ vs) → In z (vs ++ us)
    swapped us vs z member = elim (In-append z us vs member) [ inl here ↦ In-append_right z vs us here | inr there ↦ In-append_left z vs us there ]

-- a member between the others
pub same-middle : {A : Type 0} (xs : List A) (x : A) (ys : List A) → HaveSame (xs ++ x ∷ ys) (x ∷ xs ++ ys)
same-middle xs x ys = same-through (same-swap xs (x ∷ ys)) (same-append (same-itself (x ∷ [])) (same-swap ys xs))

-- a member more, written after the others
pub same-last : {A : Type 0} {xs ys zs : List A} (x : A) → HaveSame xs (x ∷ ys) → HaveSame ys zs → HaveSame xs (zs ++ x ∷ [])
same-last {zs = zs} x first second = same-through first (same-through (same-append (same-itself (x ∷ [])) second) (same-swap (x ∷ []) zs))

-- a member that is there already
pub same-there : {A : Type 0} (xs : List A) (x : A) → In x xs → HaveSame xs (x ∷ xs)
same-there {A} xs x own = record {
  there = λ z member. inr member;
  back = λ z member. elim member [ inl e ↦ subst (λ (y : A). In y xs) (sym e) own | inr there ↦ there ];
}

-- what a function makes of them
pub same-map : {A B : Type 0} (f : A → B) {xs ys : List A} → HaveSame xs ys → HaveSame (map f xs) (map f ys)
same-map {A} {B} f {xs} {ys} same = record { there = made xs ys same.there; back = made ys xs same.back }
  where
    made : (us vs : List A) → ((x : A) → In x us → In x vs) → (z : B) → In z (map f us) → In z (map f vs)
    made us vs each z member =
        (let found = In-of_map f z us member in subst (λ w. In w (map f vs)) (sym found.2) (In-map f found.0 vs (each found.0 found.1)))

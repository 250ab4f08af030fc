-- Lemmas. Ascending lists of states: a set has one such list, and a box is one.
use Rattle.std.specs.Prelude.{◌≡◌, ℕ, zero, suc, ◌-◌, ◌<◌, ◌≤◌, List, [], ◌∷◌, ◌++◌, length, map, ◌⊎◌, nat_lt, ◌==◌, cond, true, refl}
use Rattle.std.specs.Ordering.{match_ordering, ordering_then, ordering_reverse}
use Rattle.std.specs.declared.cmp.Ordering.{Ordering}
use Rattle.std.specs.declared.cmp.Ordering.TheVariants.{Less, Equal, Greater}
use Rattle.std.proofs.Common.{inl, inr, ap, sym, ◌∙◌, subst, arith, map-id}
use Rattle.std.proofs.lemmas.Bool.{lt-ltb}
use Rattle.std.proofs.lemmas.Simd.{map-map}
use Rattle.std.proofs.lemmas.Cmp.{tied_itself, nat_list_cmp_total, nat_cmp_total}
use Rattle.psi_state.specs.State.{numbers_from, box}
use Rattle.psi_state.specs.Members.{In, AreAmong}
use Rattle.psi_state.proofs.MembersLemmas.{In-append, In-of_map, In-of_flat_map, In-of_numbers_from}
use Rattle.psi_state.proofs.SameLemmas.{same-back, same-through, same-there, same-map}
use Rattle.psi_state.specs.Sets.{state_cmp, insert_state, ascending, image}
use Rattle.psi_state.proofs.SetsLemmas.{same-from_cmp, same-insert_state, same-ascending, In-of_insert_state, In-of_ascending}
use Rattle.psi_state.specs.Volume.{layers}
use Rattle.psi_state.specs.Ascending.{IsRising, IsDistinct, HaveSame}

pub cmp-itself : (x : List ℕ) → state_cmp x x ≡ Equal
cmp-itself x = tied_itself nat_list_cmp_total x

pub cmp-through : (x y z : List ℕ) → state_cmp x y ≡ Less → state_cmp y z ≡ Less → state_cmp x z ≡ Less
cmp-through x y z first second = nat_list_cmp_total.trans x y z first second

pub cmp-back : (x y : List ℕ) → state_cmp x y ≡ Greater → state_cmp y x ≡ Less
cmp-back x y greater = nat_list_cmp_total.antisymm y x ∙ ap ordering_reverse greater

-- no state is below itself, also by way of another
pub cmp-never : (x y : List ℕ) → state_cmp x y ≡ Less → state_cmp y x ≡ Less → ⊥
cmp-never x y first second =
    let below : state_cmp x x ≡ Less = cmp-through x y x first second in
    let tied : state_cmp x x ≡ Equal = cmp-itself x in
    cc

cmp-never_itself : (x y : List ℕ) → x ≡ y → state_cmp x y ≡ Less → ⊥
cmp-never_itself x y e less = (let tied : state_cmp x x ≡ Equal = cmp-itself x in
    let below : state_cmp x x ≡ Less = subst (λ (z : List ℕ). state_cmp x z ≡ Less) (sym e) less in cc)

rising-match : (x y : List ℕ) (ys more : List (List ℕ)) (o : Ordering) → state_cmp x y ≡ o → IsRising (y ∷ ys)
    → IsRising more → ((z : List ℕ) → In z more → (z ≡ x) ⊎ In z ys) → IsRising (match_ordering o (x ∷ y ∷ ys) (y ∷ ys) (y ∷ more))
rising-match x y ys more Less is rising rest from = (
  λ z member. elim member [
    | inl e ↦ subst (λ (w : List ℕ). state_cmp x w ≡ Less) (sym e) is
    | inr t ↦ cmp-through x y z is (rising.0 z t)
  ],
  rising,
)
rising-match x y ys more Equal is rising rest from = rising
rising-match x y ys more Greater is rising rest from = (
  λ z member. elim (from z member) [
    | inl e ↦ subst (λ (w : List ℕ). state_cmp y w ≡ Less) (sym e) (cmp-back x y is)
    | inr t ↦ rising.0 z t
  ],
  rest,
)

pub insert_state-rising : (x : List ℕ) (ys : List (List ℕ)) → IsRising ys → IsRising (insert_state x ys)
insert_state-rising x [] rising = (λ z member. absurd member, tt)
insert_state-rising x (y ∷ ys) rising =
    rising-match x y ys (insert_state x ys) (state_cmp x y) refl rising (insert_state-rising x ys rising.1) (λ z member. In-of_insert_state z x ys member)

-- a set's list is ascending
pub ascending-rising : (xs : List (List ℕ)) → IsRising (ascending xs)
ascending-rising [] = tt
ascending-rising (x ∷ xs) = insert_state-rising x (ascending xs) (ascending-rising xs)

-- a member that isn't there yet
pub distinct-last : {A : Type 0} (xs : List A) (x : A) → IsDistinct xs → (In x xs → ⊥) → IsDistinct (xs ++ x ∷ [])
distinct-last [] x distinct absent = (λ none. none, tt)
distinct-last (y ∷ xs) x distinct absent = (
  λ member. elim (In-append y xs (x ∷ []) member) [ inl here ↦ distinct.0 here | inr last ↦ elim last [ inl e ↦ absent (inl (sym e)) | inr none ↦ none ] ],
  distinct-last xs x distinct.1 (λ there. absent (inr there)),
)

-- two ascending lists with the same members are one
pub rising-same : (xs ys : List (List ℕ)) → IsRising xs → IsRising ys → HaveSame xs ys → xs ≡ ys
rising-same [] [] first second same = refl
rising-same [] (y ∷ ys) first second same = absurd (same.back y (inl refl))
rising-same (x ∷ xs) [] first second same = absurd (same.there x (inl refl))
rising-same (x ∷ xs) (y ∷ ys) first second same =
    let heads : x ≡ y = elim (same.there x (inl refl)) [
      | inl e ↦ e
      | inr t ↦ elim (same.back y (inl refl)) [ inl e ↦ sym e | inr u ↦ absurd (cmp-never x y (first.0 y u) (second.0 x t)) ]
    ] in
    let tails : HaveSame xs ys = record {
      there = λ z member. elim (same.there z (inr member)) [ inl e ↦ absurd (cmp-never_itself x z (heads ∙ sym e) (first.0 z member)) | inr t ↦ t ];
      back = λ z member. elim (same.back z (inr member)) [ inl e ↦ absurd (cmp-never_itself y z (sym heads ∙ sym e) (second.0 z member)) | inr t ↦ t ];
    } in
    let rest : xs ≡ ys = rising-same xs ys first.1 second.1 tails in
    cc

-- an ascending list is that of its own set
pub ascending-own : (xs : List (List ℕ)) → IsRising xs → ascending xs ≡ xs
ascending-own xs rising = rising-same (ascending xs) xs (ascending-rising xs) rising (same-ascending xs)

-- a set is determined by its members
pub ascending-members : (xs ys : List (List ℕ)) → HaveSame xs ys → ascending xs ≡ ascending ys
ascending-members xs ys same =
    rising-same (ascending xs) (ascending ys) (ascending-rising xs) (ascending-rising ys)
    (same-through (same-ascending xs) (same-through same (same-back (same-ascending ys))))

-- a state that is there already changes nothing
pub insert_state-there : (x : List ℕ) (xs : List (List ℕ)) → IsRising xs → In x xs → insert_state x xs ≡ xs
insert_state-there x xs rising member =
    rising-same (insert_state x xs) xs (insert_state-rising x xs rising) rising (same-through (same-insert_state x xs) (same-back (same-there xs x member)))

-- the image of a set is that of a list of it
pub image-ascending : (f : List ℕ → List ℕ) (xs : List (List ℕ)) → image f (ascending xs) ≡ image f xs
image-ascending f xs = ascending-members (map f (ascending xs)) (map f xs) (same-map f (same-ascending xs))

-- one function after another
pub image-image : (f g : List ℕ → List ℕ) (xs : List (List ℕ)) → image f (image g xs) ≡ image (λ x. f (g x)) xs
image-image f g xs = image-ascending f (map g xs) ∙ ap (λ (ys : List (List ℕ)). ascending ys) (map-map f g xs)

-- functions that agree on a list have one image of it
pub image-agree : (f g : List ℕ → List ℕ) (xs : List (List ℕ)) → ((x : List ℕ) → In x xs → f x ≡ g x) → image f xs ≡ image g xs
image-agree f g [] each = refl
image-agree f g (x ∷ xs) each =
    ap (λ (y : List ℕ). insert_state y (image f xs)) (each x (inl refl))
    ∙ ap (λ (ys : List (List ℕ)). insert_state (g x) ys) (image-agree f g xs (λ z member. each z (inr member)))

-- a set is its own image where nothing is changed
pub image-identity : (xs : List (List ℕ)) → IsRising xs → image (λ (x : List ℕ). x) xs ≡ xs
image-identity xs rising = ap (λ (ys : List (List ℕ)). ascending ys) (map-id xs) ∙ ascending-own xs rising

pub image-rising : (f : List ℕ → List ℕ) (xs : List (List ℕ)) → IsRising (image f xs)
image-rising f xs = ascending-rising (map f xs)

-- an ascending list has no repeats
pub rising-distinct : (xs : List (List ℕ)) → IsRising xs → IsDistinct xs
rising-distinct [] rising = tt
rising-distinct (x ∷ xs) rising = (λ member. cmp-never_itself x x refl (rising.0 x member), rising-distinct xs rising.1)

-- an ascending list whose members are all one has that one alone
pub rising-same_each : (xs : List (List ℕ)) (x s : List ℕ) → IsRising xs → In x xs → ((y : List ℕ) → In y xs → y ≡ s) → xs ≡ s ∷ []
rising-same_each [] x s rising member each = absurd member
rising-same_each (y ∷ []) x s rising member each = ap (λ (z : List ℕ). z ∷ []) (each y (inl refl))
rising-same_each (y ∷ z ∷ ys) x s rising member each =
    let same : y ≡ z = each y (inl refl) ∙ sym (each z (inr (inl refl))) in
    absurd ((rising-distinct (y ∷ z ∷ ys) rising).0 (inl same))

length-match : (x y : List ℕ) (ys more : List (List ℕ)) (o : Ordering) → (o ≡ Equal → ⊥) → length more ≡ suc (length ys)
    → length (match_ordering o (x ∷ y ∷ ys) (y ∷ ys) (y ∷ more)) ≡ suc (suc (length ys))
length-match x y ys more Less apart rest = refl
length-match x y ys more Equal apart rest = absurd (apart refl)
length-match x y ys more Greater apart rest = ap suc rest

-- a state that isn't there is one more
pub length-insert_state : (x : List ℕ) (ys : List (List ℕ)) → (In x ys → ⊥) → length (insert_state x ys) ≡ suc (length ys)
length-insert_state x [] absent = refl
length-insert_state x (y ∷ ys) absent =
    length-match x y ys (insert_state x ys) (state_cmp x y) (λ tied. absent (inl (same-from_cmp x y tied)))
    (length-insert_state x ys (λ member. absent (inr member)))

-- a list without repeats has as many members as its set
pub length-ascending : (xs : List (List ℕ)) → IsDistinct xs → length (ascending xs) ≡ length xs
length-ascending [] distinct = refl
length-ascending (x ∷ xs) distinct =
    length-insert_state x (ascending xs) (λ member. distinct.0 (In-of_ascending x xs member)) ∙ ap suc (length-ascending xs distinct.1)

-- a list without one of its members has one fewer, and still all the others
others : {A : Type 0} (x : A) (ys : List A) → In x ys
    → (rest : List A) × (length ys ≡ suc (length rest)) × ((z : A) → In z ys → (z ≡ x → ⊥) → In z rest)
others x [] member = absurd member
others x (y ∷ ys) member = elim member [
  | inl e ↦ (ys, refl, λ z found apart. elim found [ inl d ↦ absurd (apart (d ∙ sym e)) | inr t ↦ t ])
  | inr t ↦ (let rest = others x ys t in
      (y ∷ rest.0, ap suc rest.1, λ z found apart. elim found [ inl d ↦ inl d | inr u ↦ inr (rest.2 z u apart) ]))
]

-- a part of a list has no more members, if none of them stands twice
pub length-among : {A : Type 0} (xs ys : List A) → IsDistinct xs → AreAmong xs ys → length xs ≤ length ys
length-among [] ys distinct among = omega arith
length-among (x ∷ xs) ys distinct among =
    let rest = others x ys (among.each x (inl refl)) in
    let inside : AreAmong xs rest.0 = record {
      each = λ z member.
          rest.2 z (among.each z (inr member)) (λ e. distinct.0 (subst (λ w. In w xs) e member));
    } in
    let count : length ys ≡ suc (length rest.0) = rest.1 in
    let fewer : length xs ≤ length rest.0 = length-among xs rest.0 distinct.1 inside in
    omega arith

cmp-cons_same : (v : ℕ) (x y : List ℕ) → state_cmp (v ∷ x) (v ∷ y) ≡ state_cmp x y
cmp-cons_same v x y = ap (λ o. ordering_then o (state_cmp x y)) (tied_itself nat_cmp_total v)

cmp-cons_less : (v w : ℕ) (x y : List ℕ) → v < w → state_cmp (v ∷ x) (w ∷ y) ≡ Less
cmp-cons_less v w x y less =
    let test : nat_lt v w ≡ true = lt-ltb v w less in
    ap (λ b. ordering_then (cond b Less (cond (v == w) Equal Greater)) (state_cmp x y)) test

rising-cons : (v : ℕ) (xs : List (List ℕ)) → IsRising xs → IsRising (map (λ (x : List ℕ). v ∷ x) xs)
rising-cons v [] rising = tt
rising-cons v (x ∷ xs) rising = (
  λ z member. (let found = In-of_map (λ (y : List ℕ). v ∷ y) z xs member in
      subst (λ (w : List ℕ). state_cmp (v ∷ x) w ≡ Less) (sym found.2) (cmp-cons_same v x found.0 ∙ rising.0 found.0 found.1)),
  rising-cons v xs rising.1,
)

rising-append : (xs ys : List (List ℕ)) → IsRising xs → IsRising ys → ((x y : List ℕ) → In x xs → In y ys → state_cmp x y ≡ Less) → IsRising (xs ++ ys)
rising-append [] ys first second between = second
rising-append (x ∷ xs) ys first second between = (
  λ z member. elim (In-append z xs ys member) [ inl here ↦ first.0 z here | inr there ↦ between x z (inl refl) there ],
  rising-append xs ys first.1 second (λ w z here there. between w z (inr here) there),
)

layers-rising : (inner : List (List ℕ)) (first n : ℕ) → IsRising inner → IsRising (layers inner first n)
layers-rising inner first zero rising = tt
layers-rising inner first (suc n) rising =
    rising-append (map (λ (x : List ℕ). first ∷ x) inner) (layers inner (suc first) n) (rising-cons first inner rising) (layers-rising inner (suc first) n rising)
    (λ x z here there. (let own = In-of_map (λ (y : List ℕ). first ∷ y) x inner here in
    let layer = In-of_flat_map (λ v. map (λ (y : List ℕ). v ∷ y) inner) z (numbers_from (suc first) n) there in
    let number = In-of_numbers_from layer.0 (suc first) n layer.1 in
    let tail = In-of_map (λ (y : List ℕ). layer.0 ∷ y) z inner layer.2 in
    let above : first < layer.0 = number.0 in
    let less : state_cmp (first ∷ own.0) (layer.0 ∷ tail.0) ≡ Less = cmp-cons_less first layer.0 own.0 tail.0 above in
    subst (λ (w : List ℕ). state_cmp w z ≡ Less) (sym own.2) (subst (λ (w : List ℕ). state_cmp (first ∷ own.0) w ≡ Less) (sym tail.2) less)))

-- a box's list is ascending
pub box-rising : (l h : List ℕ) → IsRising (box l h)
box-rising [] [] = (λ z member. absurd member, tt)
box-rising [] (k ∷ h) = tt
box-rising (j ∷ l) [] = tt
box-rising (j ∷ l) (k ∷ h) = layers-rising (box l h) j (suc k - j) (box-rising l h)

-- A sorted list without repeats is the list of its set.
use Rattle.std.specs.Prelude.{◌≡◌, ℕ, zero, suc, ◌<◌, ◌≤◌, List, [], ◌∷◌, length, true, false, refl}
use Rattle.std.specs.Ordering.{nat_cmp, is_lt, match_ordering}
use Rattle.std.specs.Cmp.Lexicographic.{slice_cmp}
use Rattle.std.specs.declared.cmp.Ordering.{Ordering}
use Rattle.std.specs.declared.cmp.Ordering.TheVariants.{Less, Equal, Greater}
use Rattle.std.specs.List.{Contains}
use Rattle.std.specs.List.Sorted.{IsPermutation, IsSorted}
use Rattle.std.proofs.Common.{inl, inr, get_or, ap, sym, ◌∙◌, subst, arith}
use Rattle.std.proofs.lemmas.Cmp.{nat_list_cmp_total}
use Rattle.std.proofs.lemmas.List.{get_or_default}
use Rattle.std.proofs.lemmas.List.Sorted.{sorted_far, length_permutation, IsPermutation-sym, Contains-permutation}
use Rattle.std.proofs.lemmas.List.MinMax.{ranks_by}
use Rattle.psi_state.specs.Members.{In}
use Rattle.psi_state.specs.Sets.{state_cmp, insert_state, ascending}
use Rattle.psi_state.proofs.SetsLemmas.{same-from_cmp, same-insert_state, same-ascending, In-ascending}
use Rattle.psi_state.specs.Ascending.{IsRising, IsDistinct, HaveSame}
use Rattle.psi_state.proofs.AscendingLemmas.{cmp-back, insert_state-there, insert_state-rising, rising-distinct, length-among, ascending-rising, ascending-own, ascending-members, length-ascending}

-- the member at a place
pub In-got : (xs : List (List ℕ)) (k : ℕ) (d : List ℕ) → k < length xs → In (get_or xs k d) xs
In-got [] k d small = absurd (omega arith)
In-got (x ∷ xs) zero d small = inl refl
In-got (x ∷ xs) (suc k) d small = inr (In-got xs k d (omega arith))

at-In : (z : List ℕ) (xs : List (List ℕ)) → In z xs → (k : ℕ) × (k < length xs) × (get_or xs k [] ≡ z)
at-In z [] member = absurd member
at-In z (x ∷ xs) member = elim member [
  | inl e ↦ (0, omega arith, sym e)
  | inr t ↦ (let found = at-In z xs t in (suc found.0, (let small = found.1 in omega arith), found.2))
]

In-permuted : (z : List ℕ) (xs ys : List (List ℕ)) → IsPermutation xs ys → In z xs → In z ys
In-permuted z xs ys permutation member =
    let found = at-In z xs member in
    let there : Contains ys z = Contains-permutation xs ys z permutation (found.0, found.1, get_or_default xs found.0 z [] found.1 ∙ found.2) in
    subst (λ (y : List ℕ). In y ys) there.2 (In-got ys there.0 z there.1)

insert-short : (x : List ℕ) (ys : List (List ℕ)) → IsRising ys → length (insert_state x ys) ≤ suc (length ys)
insert-short x ys rising =
    length-among (insert_state x ys) (x ∷ ys) (rising-distinct (insert_state x ys) (insert_state-rising x ys rising)) (record { each = (same-insert_state x ys).there })

pub ascending-short : (xs : List (List ℕ)) → length (ascending xs) ≤ length xs
ascending-short xs = length-among (ascending xs) xs (rising-distinct (ascending xs) (ascending-rising xs)) (record { each = (same-ascending xs).there })

-- a list that is as long as its set has no repeats
distinct-long : (xs : List (List ℕ)) → length (ascending xs) ≡ length xs → IsDistinct xs
distinct-long [] same = tt
distinct-long (x ∷ xs) same = (
  λ member.
      (let there : insert_state x (ascending xs) ≡ ascending xs = insert_state-there x (ascending xs) (ascending-rising xs) (In-ascending x xs member) in
      let shorter = ap (λ (ys : List (List ℕ)). length ys) there in
      let rest = ascending-short xs in
      omega arith),
  distinct-long xs (let rest = ascending-short xs in let more = insert-short x (ascending xs) (ascending-rising xs) in omega arith),
)

rising-far : (xs : List (List ℕ)) → ((i j : ℕ) → i < j → j < length xs → state_cmp (get_or xs i []) (get_or xs j []) ≡ Less) → IsRising xs
rising-far [] each = tt
rising-far (x ∷ xs) each = (
  λ z member. (let found = at-In z xs member in
      subst (λ (y : List ℕ). state_cmp x y ≡ Less) found.2 (each 0 (suc found.0) (omega arith) (let small = found.1 in omega arith))),
  rising-far xs (λ i j less small. each (suc i) (suc j) (omega arith) (omega arith)),
)

distinct-far : (xs : List (List ℕ)) (i j : ℕ) → IsDistinct xs → i < j → j < length xs → get_or xs i [] ≡ get_or xs j [] → ⊥
distinct-far [] i j distinct less small same = omega arith
distinct-far (x ∷ xs) zero zero distinct less small same = omega arith
distinct-far (x ∷ xs) zero (suc j) distinct less small same = distinct.0 (subst (λ (y : List ℕ). In y xs) (sym same) (In-got xs j [] (omega arith)))
distinct-far (x ∷ xs) (suc i) zero distinct less small same = omega arith
distinct-far (x ∷ xs) (suc i) (suc j) distinct less small same = distinct-far xs i j distinct.1 (omega arith) (omega arith) same

less-of : (x y : List ℕ) (o : Ordering) → state_cmp x y ≡ o → is_lt (state_cmp y x) ≡ false → (x ≡ y → ⊥) → o ≡ Less
less-of x y Less is high apart = refl
less-of x y Equal is high apart = absurd (apart (same-from_cmp x y is))
less-of x y Greater is high apart = (let back : is_lt (state_cmp y x) ≡ true = ap (λ o. is_lt o) (cmp-back x y is) in cc)

-- what sorting makes of a list without repeats
pub sorted-is : (xs ys : List (List ℕ)) → IsDistinct xs → IsPermutation xs ys → IsSorted (slice_cmp nat_cmp) ys → ys ≡ ascending xs
sorted-is xs ys distinct permutation sorted =
    let same : HaveSame xs ys = record {
      there = λ z member. In-permuted z xs ys permutation member;
      back = λ z member. In-permuted z ys xs (IsPermutation-sym xs ys permutation) member;
    } in
    let sets : ascending xs ≡ ascending ys = ascending-members xs ys same in
    let count = length_permutation xs ys permutation in
    let whole = length-ascending xs distinct in
    let both = ap (λ (zs : List (List ℕ)). length zs) sets in
    let apart : IsDistinct ys = distinct-long ys (omega arith) in
    let rising : IsRising ys = rising-far ys (λ i j less small.
    less-of (get_or ys i []) (get_or ys j []) (state_cmp (get_or ys i []) (get_or ys j [])) refl
    (sorted_far (λ x y. is_lt (slice_cmp nat_cmp x y)) (ranks_by nat_list_cmp_total (λ (x : List ℕ). x)) ys sorted i j [] (omega arith) small)
    (λ e. distinct-far ys i j apart less small e)) in
    sym (ascending-own ys rising) ∙ sym sets

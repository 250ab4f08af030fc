-- The rank of a state and the state of a rank.
use Rattle.std.specs.Prelude.{◌≡◌, ℕ, zero, suc, ◌+◌, ◌<◌, List, [], ◌∷◌, length, slice_get, slice_index_or, Some, Bool, true, false, refl}
use Rattle.std.specs.List.{position_or_len}
use Rattle.std.specs.Str.{bytes_eq}
use Rattle.std.proofs.lemmas.Slice.Eq.{bytes_eq-Decides}
use Rattle.std.proofs.lemmas.Cmp.{nat_list_eq_equiv}
use Rattle.std.proofs.Common.{inl, inr, ap, sym, ◌∙◌, subst, arith}
use Rattle.std.proofs.lemmas.Option.{get_or_from_slice_get, slice_get_within}
use Rattle.psi_state.specs.State.{IsBelow, zeros, all_states}
use Rattle.psi_state.specs.Members.{In}
use Rattle.psi_state.proofs.BoxesLemmas.{In-all_states, In-of_all_states}
use Rattle.psi_state.specs.Ascending.{IsDistinct}
use Rattle.psi_state.proofs.AscendingLemmas.{rising-distinct, box-rising}
use Rattle.psi_exact.specs.Ranks.{rank_of, state_at}

-- what stands at a place is a member
pub In-at : {A : Type 0} (xs : List A) (k : ℕ) (d : A) → k < length xs → In (slice_index_or xs k d) xs
In-at [] k d small = absurd (omega arith)
In-at (x ∷ xs) zero d small = inl refl
In-at (x ∷ xs) (suc k) d small = inr (In-at xs k d (omega arith))

-- a member stands at a place
pub In-place : {A : Type 0} (x : A) (xs : List A) (d : A) → In x xs → (k : ℕ) × (k < length xs) × (slice_index_or xs k d ≡ x)
In-place x [] d member = absurd member
In-place x (y ∷ xs) d member =
    elim member [
      | inl e ↦ (0, omega arith, sym e)
      | inr rest ↦ (let found = In-place x xs d rest in let small = found.1 in (suc found.0, omega arith, found.2))
    ]

-- a member of a list without repeats stands at one place
pub distinct-place : {A : Type 0} (xs : List A) (i j : ℕ) (d : A) → IsDistinct xs → i < length xs → j < length xs
    → slice_index_or xs i d ≡ slice_index_or xs j d → i ≡ j
distinct-place [] i j d distinct first second same = absurd (omega arith)
distinct-place (x ∷ xs) zero zero d distinct first second same = refl
distinct-place (x ∷ xs) zero (suc j) d distinct first second same =
    absurd (distinct.0 (subst (λ y. In y xs) (sym same) (In-at xs j d (omega arith))))
distinct-place (x ∷ xs) (suc i) zero d distinct first second same =
    absurd (distinct.0 (subst (λ y. In y xs) same (In-at xs i d (omega arith))))
distinct-place (x ∷ xs) (suc i) (suc j) d distinct first second same =
    ap suc (distinct-place xs i j d distinct.1 (omega arith) (omega arith) same)

-- the first place of a member is one, and has it
record IsFound (x : List ℕ) (xs : List (List ℕ)) (place : ℕ) : Type 0 where
  small : place < length xs
  there : slice_index_or xs place [] ≡ x

behind-first : (y : List ℕ) (xs : List (List ℕ)) (n : ℕ) → slice_index_or (y ∷ xs) (1 + n) [] ≡ slice_index_or xs n []
behind-first y xs n = let next : 1 + n ≡ suc n = omega arith in ap (λ k. slice_index_or (y ∷ xs) k []) next

found-first : (x y : List ℕ) (xs : List (List ℕ)) → In x (y ∷ xs) → (In x xs → IsFound x xs (position_or_len (bytes_eq x) xs)) → (same : Bool) → bytes_eq x y ≡ same
    → IsFound x (y ∷ xs) (position_or_len (bytes_eq x) (y ∷ xs))
found-first x y xs member rest true is = record { small = rw is (omega arith); there = rw is (sym ((bytes_eq-Decides x y).0 is)) }
found-first x y xs member rest false is =
    elim member [
      | inl e ↦ absurd (let itself : bytes_eq x y ≡ true = subst (λ (z : List ℕ). bytes_eq x z ≡ true) e (nat_list_eq_equiv.refl x) in cc)
      | inr behind ↦ (let found = rest behind in let small = found.small in record { small = rw is (omega arith); there = rw is (behind-first y xs (position_or_len (bytes_eq x) xs) ∙ found.there) })
    ]

found-in : (x : List ℕ) (xs : List (List ℕ)) → In x xs → IsFound x xs (position_or_len (bytes_eq x) xs)
found-in x [] member = absurd member
found-in x (y ∷ xs) member = found-first x y xs member (found-in x xs) (bytes_eq x y) refl

-- the state of a state's rank is that state
pub state_at-rank_of : (caps x : List ℕ) → IsBelow x caps → state_at caps (rank_of caps x) ≡ x
unfolding state_at rank_of
state_at-rank_of caps x within = (found-in x (all_states caps) (In-all_states caps x within)).there

pub rank_of-small : (caps x : List ℕ) → IsBelow x caps → rank_of caps x < length (all_states caps)
unfolding rank_of
rank_of-small caps x within = (found-in x (all_states caps) (In-all_states caps x within)).small

pub state_at-member : (caps : List ℕ) (r : ℕ) → r < length (all_states caps) → In (state_at caps r) (all_states caps)
unfolding state_at
state_at-member caps r small = In-at (all_states caps) r [] small

pub state_at-below : (caps : List ℕ) (r : ℕ) → r < length (all_states caps) → IsBelow (state_at caps r) caps
state_at-below caps r small = In-of_all_states caps (state_at caps r) (state_at-member caps r small)

-- two ranks have two states
pub state_at-apart : (caps : List ℕ) (r k : ℕ) → r < length (all_states caps) → k < length (all_states caps) → state_at caps r ≡ state_at caps k → r ≡ k
unfolding state_at
state_at-apart caps r k first second same =
    distinct-place (all_states caps) r k [] (rising-distinct (all_states caps) (box-rising (zeros caps) caps)) first second same

-- the rank of a rank's state is that rank
pub rank_of-state_at : (caps : List ℕ) (r : ℕ) → r < length (all_states caps) → rank_of caps (state_at caps r) ≡ r
rank_of-state_at caps r small =
    let within = state_at-below caps r small in
    state_at-apart caps (rank_of caps (state_at caps r)) r (rank_of-small caps (state_at caps r) within) small (state_at-rank_of caps (state_at caps r) within)

-- a state and the place at which the list of all states has it
pub record IsRank (caps x : List ℕ) (r : ℕ) : Type 0 where
  pub small : r < length (all_states caps)
  pub rank : r ≡ rank_of caps x
  pub state : state_at caps r ≡ x

pub is_rank-from_get : (caps x : List ℕ) (r : ℕ) → slice_get (all_states caps) r ≡ Some x → IsRank caps x r
unfolding state_at
is_rank-from_get caps x r is =
    let small = slice_get_within (all_states caps) r x is in
    let state : state_at caps r ≡ x = get_or_from_slice_get (all_states caps) r x [] is in
    record { small = small; rank = sym (rank_of-state_at caps r small) ∙ ap (λ (y : List ℕ). rank_of caps y) state; state = state }

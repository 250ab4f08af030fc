-- Tests of the members of a list, one after another as a loop makes them, and whether a state is one of a list.
use Rattle.std.specs.Prelude.{◌≡◌, ℕ, suc, ◌+◌, List, [], ◌∷◌, drop, Bool, true, false, ◌&&◌, ◌||◌, Some, slice_get, refl}
use Rattle.std.specs.List.{list_all}
use Rattle.std.specs.Str.{bytes_eq}
use Rattle.std.proofs.Common.{inl, inr, ap, sym, ◌∙◌}
use Rattle.std.proofs.lemmas.Bool.{or_right, or_cases, false_from_ne_true}
use Rattle.std.proofs.lemmas.Slice.Eq.{bytes_eq-Decides}
use Rattle.psi_state.specs.Members.{In}
use Rattle.psi_log_words.proofs.OrderLemmas.{drop_get}
use Rattle.psi_log.proofs.ToldLemmas.{In-slice_get}
use Rattle.psi_replay.specs.Verdict.{has}

-- two tests of which each passes where the other does are one
pub same_test : (r b : Bool) → (r ≡ true → b ≡ true) → (b ≡ true → r ≡ true) → r ≡ b
same_test true b there back = sym (there refl)
same_test false true there back = back refl
same_test false false there back = refl

-- a member that passes takes the loop one step on, and another ends it
pub all_more : {X : Type 0} (p : X → Bool) (xs : List X) (i : ℕ) (x : X) (r whole : Bool) → slice_get xs i ≡ Some x → r ≡ p x → r ≡ true
    → list_all p (drop i xs) ≡ whole → list_all p (drop (i + 1) xs) ≡ whole
all_more p xs i x r whole is test passes so_far =
    sym (ap (list_all p) (drop_get xs i x is) ∙ ap (λ b. b && list_all p (drop (i + 1) xs)) (sym test ∙ passes)) ∙ so_far

pub all_fails : {X : Type 0} (p : X → Bool) (xs : List X) (i : ℕ) (x : X) (r whole : Bool) → slice_get xs i ≡ Some x → r ≡ p x → r ≡ false
    → list_all p (drop i xs) ≡ whole → false ≡ whole
all_fails p xs i x r whole is test fails so_far =
    sym (ap (list_all p) (drop_get xs i x is) ∙ ap (λ b. b && list_all p (drop (i + 1) xs)) (sym test ∙ fails)) ∙ so_far

-- the test for a state finds it exactly where the list has it
pub has-In : (xs : List (List ℕ)) (x : List ℕ) → has xs x ≡ true → In x xs
has-In [] x found = absurd cc
has-In (y ∷ ys) x found = elim (or_cases (bytes_eq x y) (has ys x) found) [
  | inl same ↦ inl ((bytes_eq-Decides x y).0 same)
  | inr rest ↦ inr (has-In ys x rest)
]

pub has-from_In : (xs : List (List ℕ)) (x : List ℕ) → In x xs → has xs x ≡ true
has-from_In [] x member = absurd member
has-from_In (y ∷ ys) x member = elim member [
  | inl e ↦ ap (λ b. b || has ys x) ((bytes_eq-Decides x y).1 e)
  | inr rest ↦ or_right (bytes_eq x y) (has ys x) (has-from_In ys x rest)
]

pub place_of : {X : Type 0} (xs : List X) (x : X) → In x xs → (k : ℕ) × (slice_get xs k ≡ Some x)
place_of [] x member = absurd member
place_of {X} (y ∷ ys) x member = elim member [
  | inl e ↦ (0, ap (λ (z : X). Some z) (sym e))
  | inr rest ↦ (let found = place_of ys x rest in (suc found.0, found.1))
]

-- a state that stands at no place isn't there
pub has_none : (xs : List (List ℕ)) (x : List ℕ) → ((k : ℕ) → slice_get xs k ≡ Some x → ⊥) → has xs x ≡ false
has_none xs x none = false_from_ne_true (has xs x) (λ found. (let place = place_of xs x (has-In xs x found) in none place.0 place.1))

pub has_at : (xs : List (List ℕ)) (x : List ℕ) (k : ℕ) → slice_get xs k ≡ Some x → has xs x ≡ true
has_at xs x k is = has-from_In xs x (In-slice_get xs k x is)

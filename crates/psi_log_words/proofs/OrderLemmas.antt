-- States in ascending order, one after another.
use Rattle.std.specs.Prelude.{◌≡◌, ℕ, ◌+◌, ◌≤◌, List, [], ◌∷◌, length, drop, Bool, true, ◌&&◌, Some}
use Rattle.std.specs.List.{slice_get}
use Rattle.std.specs.Ordering.{is_lt, nat_cmp}
use Rattle.std.specs.Cmp.Lexicographic.{slice_cmp}
use Rattle.std.proofs.Common.{get_or, ap, sym, ◌∙◌, arith}
use Rattle.std.proofs.lemmas.List.{drop_more, drop_all}
use Rattle.std.proofs.lemmas.Option.{slice_get_within, get_or_from_slice_get}
use Rattle.psi_log_words.specs.Regions.{ascends}

pub drop_get : {X : Type 0} (xs : List X) (i : ℕ) (x : X) → slice_get xs i ≡ Some x → drop i xs ≡ x ∷ drop (i + 1) xs
drop_get {X} xs i x is = drop_more xs i x (slice_get_within xs i x is) ∙ ap (λ (y : X). y ∷ drop (i + 1) xs) (get_or_from_slice_get xs i x x is)

pub order_none : (xs : List (List ℕ)) (i : ℕ) → length xs ≤ i → ascends (drop i xs) ≡ true
order_none xs i past = ap ascends (drop_all i xs past)

pub order_last : (xs : List (List ℕ)) (i : ℕ) → i + 1 ≡ length xs → ascends (drop i xs) ≡ ascends (drop (i + 1) xs)
order_last xs i last =
    let behind : drop (i + 1) xs ≡ [] = drop_all (i + 1) xs (omega arith) in
    ap ascends (drop_more xs i [] (omega arith) ∙ ap (λ (ys : List (List ℕ)). get_or xs i [] ∷ ys) behind) ∙ sym (ap ascends behind)

pub order_next : (xs : List (List ℕ)) (i : ℕ) (x y : List ℕ) → slice_get xs i ≡ Some x → slice_get xs (i + 1) ≡ Some y
    → ascends (drop i xs) ≡ (is_lt (slice_cmp nat_cmp x y) && ascends (drop (i + 1) xs))
order_next xs i x y here next =
    let tail : drop (i + 1) xs ≡ y ∷ drop (i + 1 + 1) xs = drop_get xs (i + 1) y next in
    ap ascends (drop_get xs i x here ∙ ap (λ (ys : List (List ℕ)). x ∷ ys) tail)
    ∙ ap (λ (b : Bool). is_lt (slice_cmp nat_cmp x y) && b) (sym (ap ascends tail))

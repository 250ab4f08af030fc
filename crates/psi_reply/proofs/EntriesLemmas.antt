-- A text that is made entry by entry, and what is read of an entry.
use Rattle.std.specs.Prelude.{◌≡◌, ℕ, zero, suc, ◌+◌, ◌<◌, List, [], ◌∷◌, ◌++◌, length, take, map, Bool, true, false, not, ◌&&◌, is_some, is_none, Option, Some, option_map, slice_get, refl}
use Rattle.std.specs.List.{flat_map, list_all}
use Rattle.std.proofs.Common.{ap, sym, ◌∙◌, arith}
use Rattle.std.proofs.lemmas.List.{take_more, flat_map_more}
use Rattle.std.proofs.lemmas.List.Folds.{list_all_more}
use Rattle.std.proofs.lemmas.Option.{slice_get-map, slice_get_within, get_or_from_slice_get}
use Rattle.std.proofs.lemmas.Grind.{common_steps}

-- a place of a list has an entry
pub entry_at : {A : Type 0} (xs : List A) (i : ℕ) → i < length xs → (x : A) × (slice_get xs i ≡ Some x)
entry_at [] i small = absurd (omega arith)
entry_at (x ∷ xs) zero small = (x, refl)
entry_at (x ∷ xs) (suc i) small = entry_at xs i (omega arith)

-- what is read of the entry is the entry's
pub field_of : {A B : Type 0} (field : A → B) (xs : List A) (i : ℕ) (x : A) (read : B) → slice_get xs i ≡ Some x → option_map field (slice_get xs i) ≡ Some read → read ≡ field x
field_of field xs i x read at is = grind (arith, common_steps)

-- lists that are the same of each entry are so at a place
pub same_at : {A B C : Type 0} (f : A → C) (g : B → C) (xs : List A) (ys : List B) (i : ℕ) (x : A) (y : B) → map f xs ≡ map g ys → slice_get xs i ≡ Some x → slice_get ys i ≡ Some y → f x ≡ g y
same_at f g xs ys i x y same first second =
    let left : slice_get (map f xs) i ≡ Some (f x) = slice_get-map f xs i ∙ ap (option_map f) first in
    let right : slice_get (map g ys) i ≡ Some (g y) = slice_get-map g ys i ∙ ap (option_map g) second in
    let whole : slice_get (map f xs) i ≡ slice_get (map g ys) i = ap (λ zs. slice_get zs i) same in
    cc

-- one more line comes after those before it
pub lines-more : {A : Type 0} (line : A → List ℕ) (xs : List A) (i : ℕ) (x : A) (before middle after own : List ℕ) → slice_get xs i ≡ Some x
    → middle ≡ before ++ flat_map line (take i xs) → after ≡ middle ++ own → own ≡ line x → after ≡ before ++ flat_map line (take (i + 1) xs)
lines-more {A} line xs i x before middle after own at held added is =
    let next : take (i + 1) xs ≡ take i xs ++ x ∷ [] =
    take_more xs i x (slice_get_within xs i x at) ∙ ap (λ (y : A). take i xs ++ y ∷ []) (get_or_from_slice_get xs i x x at) in
    added ∙ ap (λ (text : List ℕ). text ++ own) held
    ∙ ap (λ (text : List ℕ). (before ++ flat_map line (take i xs)) ++ text) is
    ∙ flat_map_more line before (take i xs) x
    ∙ ap (λ (ys : List A). before ++ flat_map line ys) (sym next)

-- a test of each entry goes on by one more
pub all-more : {A : Type 0} (p : A → Bool) (xs : List A) (i : ℕ) (x : A) → slice_get xs i ≡ Some x → list_all p (take (i + 1) xs) ≡ (list_all p (take i xs) && p x)
all-more p xs i x at =
    list_all_more p xs i x (slice_get_within xs i x at) ∙ ap (λ y. list_all p (take i xs) && p y) (get_or_from_slice_get xs i x x at)

-- a test of two parts that goes on where the first holds, and one that ends where it doesn't
pub and_then : (front here new : Bool) → front ≡ true → new ≡ here → new ≡ (front && here)
and_then front here new holds is = grind arith

pub and_else : (front here new : Bool) → front ≡ false → new ≡ false → new ≡ (front && here)
and_else front here new fails is = grind arith

-- the test for nothing, by the test for something
pub is_none-from : {A : Type 0} (o : Option A) (r : Bool) → is_some o ≡ not r → r ≡ is_none o
is_none-from o r is = grind arith

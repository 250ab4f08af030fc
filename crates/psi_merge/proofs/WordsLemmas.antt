-- The words of a call, one after another.
use Rattle.std.specs.Prelude.{◌≡◌, ℕ, ◌+◌, ◌-◌, ◌<◌, ◌≤◌, List, [], ◌∷◌, take, length, map, drop, Option, true, false, refl}
use Rattle.std.specs.List.{list_all}
use Rattle.std.proofs.Common.{get_or, ap, sym, ◌∙◌, subst, arith}
use Rattle.std.proofs.lemmas.List.{take_all, drop_more, drop_all}
use Rattle.psi_merge.specs.Reply.{whole_of, is_file, are_files}
use Rattle.psi_merge.specs.Spared.{AreNextGiven, AreGiven}

pub files-none : (words : List (List ℕ)) → length words ≡ 0 → are_files words ≡ false
unfolding are_files
files-none [] none = refl
files-none (word ∷ words) none = absurd (omega arith)

module _ {S : Type 0} (view : S → List ℕ) (names : List S) (i : ℕ) (x : S) (small : i < length names) (is : x ≡ get_or names i x) where
  pub files-more : is_file (view x) ≡ true → list_all is_file (map view (drop (i + 1) names)) ≡ list_all is_file (map view (drop i names))
  files-more file = rw (drop_more names i x small, ← is, file) refl

  pub files-refused : is_file (view x) ≡ false → list_all is_file (map view (drop i names)) ≡ false
  files-refused other = rw (drop_more names i x small, ← is, other) refl

pub files-end : {S : Type 0} (view : S → List ℕ) (names : List S) (i : ℕ) → length names ≤ i → list_all is_file (map view (drop i names)) ≡ true
files-end view names i past = rw (drop_all i names past) refl

-- the first word and those after it are all
pub split-words : {S : Type 0} (view : S → List ℕ) (names : List S) (x : S) (word : List ℕ) → 1 ≤ length names → x ≡ get_or names 0 x → word ≡ view x
    → word ∷ map view (take (length names - 1) (drop 1 names)) ≡ map view names
split-words view [] x word some is same = absurd (omega arith)
split-words view (y ∷ ys) x word some is same =
    let rest : take (length (y ∷ ys) - 1) ys ≡ ys = take_all (length (y ∷ ys) - 1) ys (omega arith) in
    ap (λ w. w ∷ map view (take (length (y ∷ ys) - 1) ys)) (same ∙ ap view is) ∙ ap (λ (zs : List _). view y ∷ map view zs) rest

pub files-split : (word : List ℕ) (rest words : List (List ℕ)) → word ∷ rest ≡ words → are_files words ≡ list_all is_file words
unfolding are_files
files-split word rest words is = rw (← is) refl

-- the words are files, each of which is given where it is needed
given-words : (gives : List ℕ → Type 0) (told : List ℕ → Option (List ℕ)) (words : List (List ℕ)) → are_files words ≡ true → AreGiven gives told words
    → AreNextGiven gives (whole_of told) words
given-words gives told words are given name next = given name (record { files = are; next = next })

-- then those after the first are given as they come to be needed
pub given-split : {S : Type 0} (view : S → List ℕ) (gives : List ℕ → Type 0) (told : List ℕ → Option (List ℕ)) (names : List S) (x : S) (word : List ℕ)
    → 1 ≤ length names → x ≡ get_or names 0 x → word ≡ view x → list_all is_file (map view names) ≡ true → AreGiven gives told (map view names)
    → AreNextGiven gives (whole_of told) (word ∷ map view (take (length names - 1) (drop 1 names)))
given-split view gives told names x word some is same files given =
    let split = split-words view names x word some is same in
    subst (AreNextGiven gives (whole_of told)) (sym split) (given-words gives told (map view names) (files-split _ _ (map view names) split ∙ files) given)

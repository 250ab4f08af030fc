-- Lists whose elements are changed by those of another list, one place after another.
use Rattle.std.specs.Prelude.{◌≡◌, ℕ, zero, suc, ◌+◌, ◌<◌, ◌≤◌, List, [], ◌∷◌, map, length, All, refl}
use Rattle.std.proofs.Common.{sym, ◌∙◌, ap, get_or, set, take, arith}
use Rattle.std.proofs.lemmas.List.{take_all}
use Rattle.std.proofs.lemmas.List.Elements.{All-cons}
use Rattle.psi_report.specs.Joined.{paired}

pub length_paired : {A B : Type 0} (f : A → B → A) (xs : List A) (ys : List B) → length (paired f xs ys) ≡ length xs
length_paired f [] ys = refl
length_paired f (x ∷ xs) [] = refl
length_paired f (x ∷ xs) (y ∷ ys) = ap suc (length_paired f xs ys)

pub paired_none : {A B : Type 0} (f : A → B → A) (xs : List A) → paired f xs [] ≡ xs
paired_none f [] = refl
paired_none f (x ∷ xs) = refl

-- what stands at the next place is as it was
pub get_or-paired : {A B : Type 0} (f : A → B → A) (xs : List A) (ys : List B) (i : ℕ) (d : A) → get_or (paired f xs (take i ys)) i d ≡ get_or xs i d
get_or-paired f [] ys i d = refl
get_or-paired f (x ∷ xs) ys zero d = refl
get_or-paired f (x ∷ xs) [] (suc i) d = refl
get_or-paired f (x ∷ xs) (y ∷ ys) (suc i) d = get_or-paired f xs ys i d

-- one more place is changed
pub paired-take-suc : {A B : Type 0} (f : A → B → A) (xs : List A) (ys : List B) (i : ℕ) (d : A) (e : B) → i < length xs → i < length ys
    → set (paired f xs (take i ys)) i (f (get_or xs i d) (get_or ys i e)) ≡ paired f xs (take (suc i) ys)
paired-take-suc f [] ys i d e small few = absurd (omega arith)
paired-take-suc f (x ∷ xs) [] i d e small few = absurd (omega arith)
paired-take-suc f (x ∷ xs) (y ∷ ys) zero d e small few = ap (λ zs. f x y ∷ zs) (sym (paired_none f xs))
paired-take-suc f (x ∷ xs) (y ∷ ys) (suc i) d e small few = ap (λ zs. f x y ∷ zs) (paired-take-suc f xs ys i d e (omega arith) (omega arith))

-- one more place is changed: what a loop that reads it and writes it back has
pub paired_more : {A B : Type 0} (f : A → B → A) (xs zs : List A) (ys : List B) (i : ℕ) (x : A) (y : B) → i < length xs → i < length ys
    → zs ≡ paired f xs (take i ys) → x ≡ get_or zs i x → y ≡ get_or ys i y → set zs i (f x y) ≡ paired f xs (take (i + 1) ys)
paired_more f xs zs ys i x y small few is old value =
    let read : x ≡ get_or xs i x = old ∙ ap (λ ws. get_or ws i x) is ∙ get_or-paired f xs ys i x in
    let more : set (paired f xs (take i ys)) i (f (get_or xs i x) (get_or ys i y)) ≡ paired f xs (take (suc i) ys) = paired-take-suc f xs ys i x y small few in
    let made : f x y ≡ f (get_or xs i x) (get_or ys i y) = ap (λ v. f v y) read ∙ ap (λ w. f (get_or xs i x) w) value in
    let next : i + 1 ≡ suc i = omega arith in
    rw (next, is, made) more

-- all places are changed
pub paired_all : {A B : Type 0} (f : A → B → A) (xs : List A) (ys : List B) (i : ℕ) → length ys ≤ i → paired f xs (take i ys) ≡ paired f xs ys
paired_all f xs ys i whole = ap (λ zs. paired f xs zs) (take_all i ys whole)

-- a second list that is made of another
pub paired-map : {A B C : Type 0} (f : A → B → A) (g : C → B) (xs : List A) (zs : List C) → paired f xs (map g zs) ≡ paired (λ x z. f x (g z)) xs zs
paired-map f g [] zs = refl
paired-map f g (x ∷ xs) [] = refl
paired-map f g (x ∷ xs) (z ∷ zs) = ap (λ ws. f x (g z) ∷ ws) (paired-map f g xs zs)

-- what holds of each element of both lists holds of each that is made
pub All-paired : {A B : Type 0} (f : A → B → A) (P : A → Type 0) (Q : B → Type 0) (R : A → Type 0) → ((x : A) → P x → R x) → ((x : A) (y : B) → P x → Q y → R (f x y))
    → (xs : List A) (ys : List B) → All P xs → All Q ys → All R (paired f xs ys)
All-paired f P Q R stay made [] ys own other = λ k d small. absurd (omega arith)
All-paired f P Q R stay made (x ∷ xs) [] own other = λ k d small. stay (get_or (x ∷ xs) k d) (own k d small)
All-paired f P Q R stay made (x ∷ xs) (y ∷ ys) own other =
    let first = made x y (own 0 x (omega arith)) (other 0 y (omega arith)) in
    let rest : All R (paired f xs ys) = All-paired f P Q R stay made xs ys (λ k d small. own (suc k) d (omega arith)) (λ k d small. other (suc k) d (omega arith)) in
    All-cons R (f x y) (paired f xs ys) first rest

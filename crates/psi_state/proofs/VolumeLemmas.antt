-- Lemmas. The number of states of a box, as the product of its widths, and the place of each state in the box's list.
use Rattle.std.specs.Prelude.{◌≡◌, ℕ, zero, suc, ◌+◌, ◌-◌, ◌*◌, ◌<◌, ◌≤◌, List, [], ◌∷◌, ◌++◌, length, map, Some, slice_get, slice_index, drop, refl}
use Rattle.std.specs.Option.{option_map}
use Rattle.std.proofs.Common.{ap, sym, ◌∙◌, arith, length-append, zero-add}
use Rattle.std.proofs.Math.Nat.{suc-mul, zero-mul, mul-pos}
use Rattle.std.proofs.Math.Seq.{drop-cons, drop-length}
use Rattle.std.proofs.lemmas.List.{length-map, drop_all}
use Rattle.std.proofs.lemmas.Option.{slice_get_within, slice_get-map}
use Rattle.psi_state.specs.State.{IsBelow, box}
use Rattle.psi_state.specs.Boxes.{IsBetween}
use Rattle.psi_state.proofs.BoxesLemmas.{below-induction, between-induction, below-drop}
use Rattle.psi_state.specs.Volume.{volume, place_in, layers}

pub length-layers : (inner : List (List ℕ)) (first n : ℕ) → length (layers inner first n) ≡ n * length inner
length-layers inner first zero = sym (zero-mul (length inner))
length-layers inner first (suc n) =
    let front = length-map inner (λ (x : List ℕ). first ∷ x) in
    let rest = length-layers inner (suc first) n in
    let joined = length-append (map (λ (x : List ℕ). first ∷ x) inner) (layers inner (suc first) n) in
    omega (arith, joined, front, rest, suc-mul n (length inner))

-- a box has as many states as the product of its widths
pub length-box : (l h : List ℕ) → length (box l h) ≡ volume l h
length-box [] [] = refl
length-box [] (k ∷ h) = refl
length-box (j ∷ l) [] = refl
length-box (j ∷ l) (k ∷ h) = length-layers (box l h) j (suc k - j) ∙ ap (λ n. (suc k - j) * n) (length-box l h)

-- a box between ordered corners isn't empty
pub volume-some : (l h : List ℕ) → IsBelow l h → 1 ≤ volume l h
volume-some = below-induction (λ l h. 1 ≤ volume l h) (omega arith) (λ j k l h first ordered rest. (let width : 1 ≤ suc k - j = omega arith in mul-pos width rest))

slice_get-left : {A : Type 0} (xs ys : List A) (i : ℕ) (x : A) → slice_get xs i ≡ Some x → slice_get (xs ++ ys) i ≡ Some x
slice_get-left [] ys i x is = absurd cc
slice_get-left (z ∷ xs) ys zero x is = is
slice_get-left (z ∷ xs) ys (suc i) x is = slice_get-left xs ys i x is

slice_get-right : {A : Type 0} (xs ys : List A) (i : ℕ) → slice_get (xs ++ ys) (length xs + i) ≡ slice_get ys i
slice_get-right [] ys i = ap (λ k. slice_get ys k) (zero-add i)
slice_get-right (z ∷ xs) ys i =
    let e : suc (length xs) + i ≡ suc (length xs + i) = omega arith in
    ap (λ k. slice_get (z ∷ xs ++ ys) k) e ∙ slice_get-right xs ys i

pub slice_get-layers : (inner : List (List ℕ)) (first n k i : ℕ) (x : List ℕ) → k < n → slice_get inner i ≡ Some x
    → slice_get (layers inner first n) (k * length inner + i) ≡ Some ((first + k) ∷ x)
slice_get-layers inner first zero k i x small is = absurd (omega arith)
slice_get-layers inner first (suc n) zero i x small is =
    let at : 0 * length inner + i ≡ i = omega (arith, zero-mul (length inner)) in
    let number : first ≡ first + 0 = omega arith in
    ap (λ j. slice_get (layers inner first (suc n)) j) at
    ∙ (slice_get-left (map (λ (y : List ℕ). first ∷ y) inner) (layers inner (suc first) n) i (first ∷ x) (slice_get-map (λ (y : List ℕ). first ∷ y) inner i ∙ ap (option_map (λ (y : List ℕ). first ∷ y)) is)
    ∙ ap (λ v. Some (v ∷ x)) number)
slice_get-layers inner first (suc n) (suc k) i x small is =
    let count = length-map inner (λ (x : List ℕ). first ∷ x) in
    let front = map (λ (y : List ℕ). first ∷ y) inner in
    let at : suc k * length inner + i ≡ length (map (λ (y : List ℕ). first ∷ y) inner) + (k * length inner + i) = omega (arith, count, suc-mul k (length inner)) in
    let number : suc first + k ≡ first + suc k = omega arith in
    ap (λ j. slice_get (layers inner first (suc n)) j) at
    ∙ (slice_get-right (map (λ (y : List ℕ). first ∷ y) inner) (layers inner (suc first) n) (k * length inner + i)
    ∙ (slice_get-layers inner (suc first) n k i x (omega arith) is
    ∙ ap (λ v. Some (v ∷ x)) number))

-- the place of a state of a box is where the box's list has it
pub slice_get-box : (l h x : List ℕ) → IsBetween l h x → slice_get (box l h) (place_in l h x) ≡ Some x
slice_get-box =
    between-induction (λ l h x. slice_get (box l h) (place_in l h x) ≡ Some x) refl
    (λ j k v l h x first last between rest.
    (let found = slice_get-layers (box l h) j (suc k - j) (v - j) (place_in l h x) x (omega arith) rest in
    let count : volume l h ≡ length (box l h) = sym (length-box l h) in
    let number : j + (v - j) ≡ v = omega arith in
    ap (λ n. slice_get (box (j ∷ l) (k ∷ h)) ((v - j) * n + place_in l h x)) count
    ∙ (found ∙ ap (λ w. Some (w ∷ x)) number)))

-- so it is below the number of states
pub place_in-small : (l h x : List ℕ) → IsBetween l h x → place_in l h x < volume l h
place_in-small l h x between =
    let within : place_in l h x < length (box l h) = slice_get_within (box l h) (place_in l h x) x (slice_get-box l h x between) in
    omega (arith, length-box l h)

-- the number of states between what is left of the corners, with one place more
pub volume-drop : (l h : List ℕ) (i : ℕ) → IsBelow l h → i < length l
    → volume (drop i l) (drop i h) ≡ (suc (slice_index h i) - slice_index l i) * volume (drop (suc i) l) (drop (suc i) h)
volume-drop l h i ordered small = rw (drop-cons l i 0 small, drop-cons h i 0 (omega (arith, ordered.same_length))) refl

pub volume-drop-some : (l h : List ℕ) (i : ℕ) → IsBelow l h → 1 ≤ volume (drop i l) (drop i h)
volume-drop-some l h i ordered = volume-some (drop i l) (drop i h) (below-drop l h i ordered)

-- after the last place nothing is left
pub volume-drop-all : (l h : List ℕ) → length l ≡ length h → volume (drop (length l) l) (drop (length l) h) ≡ 1
volume-drop-all l h same = rw (drop-length l, drop_all (length l) h (omega arith)) refl

-- the place of what is left of a state, with one place more
pub place_in-drop : (l h x : List ℕ) (i : ℕ) → IsBelow l h → length x ≡ length l → i < length l
    → place_in (drop i l) (drop i h) (drop i x)
    ≡ (slice_index x i - slice_index l i) * volume (drop (suc i) l) (drop (suc i) h) + place_in (drop (suc i) l) (drop (suc i) h) (drop (suc i) x)
place_in-drop l h x i ordered same small =
    rw (drop-cons l i 0 small, drop-cons h i 0 (omega (arith, ordered.same_length)), drop-cons x i 0 (omega arith)) refl

pub place_in-drop-all : (l h x : List ℕ) → place_in (drop (length l) l) (drop (length l) h) (drop (length l) x) ≡ 0
place_in-drop-all l h x = rw (drop-length l) refl

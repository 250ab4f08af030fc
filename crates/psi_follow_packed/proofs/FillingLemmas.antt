-- Lists of packed states that are made by repeating their front with one customer more.
use Rattle.std.specs.Prelude.{◌≡◌, ℕ, zero, suc, ◌+◌, ◌-◌, ◌*◌, ◌^◌, ◌<◌, ◌≤◌, List, [], ◌∷◌, ◌++◌, length, map, take, drop, replicate, get_or, slice_index, slice_set}
use Rattle.std.specs.List.{flat_map}
use Rattle.std.proofs.Common.{inl, inr, refl, ap, ap₂, sym, subst, ◌∙◌, arith, append_assoc, append-nil, get_or-drop, get_or-set_same, get_or-set_other, length-drop}
use Rattle.std.proofs.Math.Nat.{suc-mul, zero-mul, le-mul_of_pos_right}
use Rattle.std.proofs.lemmas.Simd.{map-map}
use Rattle.std.proofs.Math.ListN.{get_or-map}
use Rattle.std.proofs.Math.Seq.{drop-cons, take-suc, take-add, get_or-append_seam, take-length, drop-length}
use Rattle.std.proofs.lemmas.Bool.{cases_eq}
use Rattle.std.proofs.lemmas.List.{take-map, map-append, get_or-take, length-take-le, length-map, length-replicate}
use Rattle.std.proofs.lemmas.Grind.{same_number_lists}
use Rattle.psi_state.specs.State.{IsBelow, box, numbers_from, zeros}
use Rattle.psi_state.specs.Members.{In}
use Rattle.psi_state.specs.Volume.{volume, layers}
use Rattle.psi_state.proofs.ArraysLemmas.{slice_index-zeros}
use Rattle.psi_state.proofs.BoxesLemmas.{below-head, below-tail, below-cons, below-through, set-below, zeros-below, In-of_box}
use Rattle.psi_state.proofs.VolumeLemmas.{length-box, volume-some, volume-drop, volume-drop-some}
use Rattle.psi_follow_packed.specs.Packed.{Packing, IsPacking, packed}
use Rattle.psi_follow_packed.specs.declared.layout.Packed.{Packed}
use Rattle.psi_follow_packed.specs.Inner.FillingKept.{words_at, words_in, AreSums, AreRepeated, AreBehind}
use Rattle.psi_follow_packed.proofs.DigitsLemmas.{digits-same, digits-add}
use Rattle.psi_follow_packed.proofs.WidthsLemmas.{below-take, volume-split}
use Rattle.psi_follow_packed.proofs.WordsLemmas.{fields_of, packed-at, packed-lt, length-packed, below-fit}

-- ---- lists

map-alike : {X A : Type 0} (f g : X → A) (xs : List X) → ((x : X) → In x xs → f x ≡ g x) → map f xs ≡ map g xs
map-alike f g [] alike = refl
map-alike {X} {A} f g (x ∷ xs) alike = ap₂ (λ (y : A) (ys : List A). y ∷ ys) (alike x (inl refl)) (map-alike f g xs (λ y member. alike y (inr member)))

-- what is made of each member of a layered list
map-layers : {A : Type 0} (f : List ℕ → A) (inner : List (List ℕ)) (first n : ℕ)
    → map f (layers inner first n) ≡ flat_map (λ v. map (λ (x : List ℕ). f (v ∷ x)) inner) (numbers_from first n)
map-layers f inner first zero = refl
map-layers {A} f inner first (suc n) =
    map-append f (map (λ (x : List ℕ). first ∷ x) inner) (layers inner (suc first) n)
    ∙ ap₂ (λ (ys zs : List A). ys ++ zs) (map-map f (λ (x : List ℕ). first ∷ x) inner) (map-layers f inner (suc first) n)

-- ---- lists that repeat their front

module _ {X A : Type 0} (made : ℕ → X → A) (Raised : A → A → Type 0) (none : A) where
  row-raised : (inner : List X) (v : ℕ) (row next : List A) → length next ≡ length inner → row ≡ map (made v) inner
      → ((i : ℕ) → i < length inner → Raised (get_or row i none) (get_or next i none))
      → ((x : X) (b : A) → In x inner → Raised (made v x) b → b ≡ made (suc v) x) → next ≡ map (made (suc v)) inner
  row-raised [] v row [] long is each next = refl
  row-raised [] v row (b ∷ bs) long is each next = absurd (omega arith)
  row-raised (x ∷ inner) v row [] long is each next = absurd (omega arith)
  row-raised (x ∷ inner) v row (b ∷ bs) long is each next =
      let raised : (i : ℕ) → i < suc (length inner) → Raised (get_or (map (made v) (x ∷ inner)) i none) (get_or (b ∷ bs) i none) =
      λ i small. subst (λ (r : List A). Raised (get_or r i none) (get_or (b ∷ bs) i none)) is (each i small) in
      ap₂ (λ (y : A) (ys : List A). y ∷ ys) (next x b (inl refl) (raised 0 (omega arith)))
      (row-raised inner v (map (made v) inner) bs (omega arith) refl (λ i small. raised (suc i) (omega arith)) (λ y c member. next y c (inr member)))

  -- where each layer is the one before, raised, the list is what is made of all numbers and the inner list
  layers-made : (inner : List X) (n first : ℕ) (list : List A) → n * length inner ≤ length list
      → (1 ≤ n → take (length inner) list ≡ map (made first) inner)
      → ((i : ℕ) → length inner ≤ i → i < n * length inner → Raised (get_or list (i - length inner) none) (get_or list i none))
      → ((v : ℕ) (x : X) (b : A) → In x inner → first ≤ v → suc v < first + n → Raised (made v x) b → b ≡ made (suc v) x)
      → take (n * length inner) list ≡ flat_map (λ v. map (made v) inner) (numbers_from first n)
  layers-made inner zero first list enough front each next = ap (λ k. take k list) (zero-mul (length inner))
  layers-made inner (suc n) first list enough front each next =
      let m = length inner in
      let rest = drop m list in
      let more : suc n * m ≡ m + n * m = (let e = suc-mul n m in omega (arith, e)) in
      let long : length rest ≡ length list - m = length-drop m list in
      let own = front (omega arith) in
      let later : (i : ℕ) → get_or rest i none ≡ get_or list (m + i) none = λ i. get_or-drop m list i none in
      let second : 1 ≤ n → take m rest ≡ map (made (suc first)) inner = λ some.
      (let enough_rest : m ≤ n * m = omega (arith, le-mul_of_pos_right m some) in
      row-raised inner first (take m list) (take m rest) (length-take-le m rest (omega arith)) own
      (λ i small.
      (let e : m + i - m ≡ i = omega arith in
      rw (get_or-take m rest i none small, later i, get_or-take m list i none small) (rw e at (each (m + i) (omega arith) (omega arith)))))
      (λ x b member raised. next first x b member (omega arith) (omega arith) raised)) in
      let below : (i : ℕ) → m ≤ i → i < n * m → Raised (get_or rest (i - m) none) (get_or rest i none) = λ i past small.
      (let e : m + i - m ≡ m + (i - m) = omega arith in rw (later i, later (i - m)) (rw e at (each (m + i) (omega arith) (omega arith)))) in
      ap (λ k. take k list) more
      ∙ take-add m (n * m) list
      ∙ ap₂ (λ (ys zs : List A). ys ++ zs) own
      (layers-made inner n (suc first) rest (omega arith) second below (λ v x b member past small raised. next v x b member (omega arith) (omega arith) raised))

-- ---- one customer more

-- the number at a place where another stood, and the numbers at the others
off-seam : (front : List ℕ) (v w : ℕ) (x : List ℕ) (q : ℕ) → (q ≡ length front → ⊥) → slice_index (front ++ v ∷ x) q ≡ slice_index (front ++ w ∷ x) q
off-seam [] v w x zero other = absurd (other refl)
off-seam [] v w x (suc q) other = refl
off-seam (y ∷ front) v w x zero other = refl
off-seam (y ∷ front) v w x (suc q) other = off-seam front v w x q (λ e. other (ap suc e))

-- no customer but one
one-at : (n place q : ℕ) → place < n → slice_index (slice_set (replicate n 0) place 1) place ≡ 1
one-at n place q within = get_or-set_same (replicate n 0) place 1 0 (let long = length-replicate {A = ℕ} n 0 in omega (arith, long))

one-more : (front : List ℕ) (v : ℕ) (x : List ℕ) (n place : ℕ) → length front ≡ place → place < n → (q : ℕ)
    → slice_index (front ++ suc v ∷ x) q ≡ slice_index (front ++ v ∷ x) q + slice_index (slice_set (replicate n 0) place 1) q
one-more front v x n place same within q = elim (cases_eq q place) [
  | inl e ↦ (let first : slice_index (front ++ suc v ∷ x) (length front) ≡ suc v = get_or-append_seam front (suc v) x 0 in
      let second : slice_index (front ++ v ∷ x) (length front) ≡ v = get_or-append_seam front v x 0 in
      let third : slice_index (slice_set (replicate n 0) place 1) place ≡ 1 = one-at n place q within in
      let there : q ≡ length front = e ∙ sym same in
      ap (λ k. slice_index (front ++ suc v ∷ x) k) there ∙ first
      ∙ sym (ap₂ ◌+◌ (ap (λ k. slice_index (front ++ v ∷ x) k) there ∙ second) (ap (λ k. slice_index (slice_set (replicate n 0) place 1) k) e ∙ third) ∙ omega arith))
  | inr other ↦ (let none : slice_index (slice_set (replicate n 0) place 1) q ≡ 0 = get_or-set_other (replicate n 0) place q 1 0 other ∙ slice_index-zeros n q in
      let alike : slice_index (front ++ suc v ∷ x) q ≡ slice_index (front ++ v ∷ x) q = off-seam front (suc v) v x q (λ e. other (e ∙ same)) in
      omega (arith, none, alike))
]

-- the sums of the words of two states are those of the state that has their numbers' sums
sums-packed : (count : ℕ) (p : Packing) (x u y words : List ℕ) → IsPacking count p → IsBelow y p.caps
    → ((q : ℕ) → slice_index y q ≡ slice_index x q + slice_index u q) → AreSums count (packed count p x) (packed count p u) words → words ≡ packed count p y
sums-packed count p x u y words is below each sums =
    same_number_lists words (packed count p y) (sums.long ∙ sym (length-packed count p y))
    (λ w small. (let within : w < count = omega (arith, sums.long) in
    let few : slice_index (packed count p y) w < 2 ^ 64 = packed-lt count p y is (below-fit count p y is below) w in
    let whole : slice_index (packed count p x) w + slice_index (packed count p u) w ≡ slice_index (packed count p y) w =
    ap₂ ◌+◌ (packed-at count p x w within) (packed-at count p u w within)
    ∙ sym (digits-add p.bits p.fields (fields_of p.fields x w) (fields_of p.fields u w))
    ∙ digits-same p.bits p.fields (λ j. fields_of p.fields x w j + fields_of p.fields u w j) (fields_of p.fields y w) (λ j inside. sym (each (w * p.fields + j)))
    ∙ sym (packed-at count p y w within) in
    let sum = sums.each w within in
    omega (arith, sum, whole, few)))

-- least numbers in front, a number that is at most the greatest, and numbers after it that are
below-behind : (lo hi : List ℕ) (place v : ℕ) (x : List ℕ) → IsBelow lo hi → place < length lo → v ≤ slice_index hi place → IsBelow x (drop (suc place) hi)
    → IsBelow (take place lo ++ v ∷ x) hi
below-behind [] hi place v x ordered within small below = absurd (omega arith)
below-behind (l ∷ lo) [] place v x ordered within small below = absurd (let e : suc (length lo) ≡ 0 = ordered.same_length in omega arith)
below-behind (l ∷ lo) (h ∷ hi) zero v x ordered within small below = below-cons v x h hi small below
below-behind (l ∷ lo) (h ∷ hi) (suc place) v x ordered within small below =
    below-cons l (take place lo ++ v ∷ x) h hi (below-head l lo h hi ordered)
    (below-behind lo hi place v x (below-tail l lo h hi ordered) (omega arith) small below)

-- ---- the states of a box

volume-drop-most : (lo hi : List ℕ) (place : ℕ) → IsBelow lo hi → volume (drop place lo) (drop place hi) ≤ volume lo hi
volume-drop-most lo hi place ordered =
    let some = volume-some (take place lo) (take place hi) (below-take place lo hi ordered) in
    omega (arith, volume-split place lo hi, le-mul_of_pos_right (volume (drop place lo) (drop place hi)) some)

-- a box between ordered corners has a state
pub box-some : (lo hi : List ℕ) → IsBelow lo hi → 1 ≤ length (box lo hi)
box-some lo hi ordered = let some = volume-some lo hi ordered in let all = length-box lo hi in omega (arith, some, all)

pub behind-some : {K : ℕ} (p : Packing) (lo hi : List ℕ) (place first : ℕ) (list : List (Packed K)) → IsBelow lo hi → AreBehind p lo hi place first list → 1 ≤ first
behind-some p lo hi place first list ordered behind =
    let some = volume-drop-some lo hi place ordered in
    let all = length-box (drop place lo) (drop place hi) in
    omega (arith, some, all, behind.count)

-- there is room for the states with one queue more, where there is for all
pub spread-fits : (lo hi : List ℕ) (place count : ℕ) → IsBelow lo hi → place < length lo → count ≡ length (box (drop (suc place) lo) (drop (suc place) hi))
    → (suc (slice_index hi place) - slice_index lo place) * count ≤ length (box lo hi)
spread-fits lo hi place count ordered within is =
    let behind : count ≡ volume (drop (suc place) lo) (drop (suc place) hi) = is ∙ length-box (drop (suc place) lo) (drop (suc place) hi) in
    let own : (suc (slice_index hi place) - slice_index lo place) * count ≡ volume (drop place lo) (drop place hi) =
    ap (λ n. (suc (slice_index hi place) - slice_index lo place) * n) behind ∙ sym (volume-drop lo hi place ordered within) in
    let most = volume-drop-most lo hi place ordered in
    let all = length-box lo hi in
    omega (arith, own, most, all)

-- after the last queue there is one state, that of the least numbers
pub behind-none : {K : ℕ} (p : Packing) (lo hi : List ℕ) (list : List (Packed K)) (x : Packed K) → length lo ≡ length hi → 1 ≤ length list → x.words ≡ packed K p lo
    → AreBehind p lo hi (length lo) 1 (slice_set list 0 x)
behind-none p lo hi [] x same some own = absurd (omega arith)
behind-none {K} p lo hi (y ∷ list) x same some own =
    let none : drop (length lo) lo ≡ [] = drop-length lo in
    let end : drop (length lo) hi ≡ [] = ap (λ n. drop n hi) same ∙ drop-length hi in
    let is : box (drop (length lo) lo) (drop (length lo) hi) ≡ [] ∷ [] = ap₂ box none end in
    let all : take (length lo) lo ++ [] ≡ lo = append-nil (take (length lo) lo) ∙ take-length lo in
    record {
      count = sym (ap (λ (xs : List (List ℕ)). length xs) is);
      words = ap (λ (w : List ℕ). w ∷ []) (own ∙ ap (packed K p) (sym all))
          ∙ sym (ap (λ (xs : List (List ℕ)). map (λ (z : List ℕ). packed K p (take (length lo) lo ++ z)) xs) is);
    }

-- the states of a box with one queue more
pub behind-more : {K : ℕ} (p : Packing) (lo hi : List ℕ) (place first all : ℕ) (old new : List (Packed K)) → IsPacking K p → IsBelow lo hi → IsBelow hi p.caps → place < length lo
    → all ≡ (suc (slice_index hi place) - slice_index lo place) * first → all ≤ length new → AreBehind p lo hi (suc place) first old → take first new ≡ take first old
    → AreRepeated (packed K p (slice_set (replicate (length lo) 0) place 1)) first all new → AreBehind p lo hi place all new
behind-more {K} p lo hi place first all old new is ordered within small whole enough behind front repeated =
    let l = slice_index lo place in
    let h = slice_index hi place in
    let ls = drop (suc place) lo in
    let hs = drop (suc place) hi in
    let inner = box ls hs in
    let least : l ≤ h = ordered.each place small in
    let low : drop place lo ≡ l ∷ ls = drop-cons lo place 0 small in
    let high : drop place hi ≡ h ∷ hs = drop-cons hi place 0 (omega (arith, ordered.same_length)) in
    let boxes : box (drop place lo) (drop place hi) ≡ layers inner l (suc h - l) = ap₂ box low high in
    let unit = packed K p (slice_set (replicate (length lo) 0) place 1) in
    let made = λ (v : ℕ) (x : List ℕ). packed K p (take place lo ++ v ∷ x) in
    let list = words_in new in
    let size : all ≡ (suc h - l) * length inner = whole ∙ ap (λ n. (suc h - l) * n) behind.count in
    let long : length list ≡ length new = length-map new (λ (x : Packed K). x.words) in
    let count : length (take place lo) ≡ place = length-take-le place lo (omega arith) in
    let begun : take (length inner) list ≡ map (made l) inner =
    ap (λ n. take n list) (sym behind.count)
    ∙ take-map (λ (x : Packed K). x.words) first new
    ∙ ap words_in front
    ∙ behind.words
    ∙ map-alike (λ (x : List ℕ). packed K p (take (suc place) lo ++ x)) (made l) inner
    (λ x member. ap (λ (ys : List ℕ). packed K p (ys ++ x)) (take-suc lo place 0 small) ∙ ap (packed K p) (append_assoc (take place lo) (l ∷ []) x)) in
    let read : (i : ℕ) → get_or list i [] ≡ words_at new i = λ i. get_or-map (λ (x : Packed K). x.words) new i (record { words = [] }) in
    let filled = layers-made made (λ (a b : List ℕ). AreSums K a unit b) [] inner (suc h - l) l list (omega (arith, size, long)) (λ some. begun)
    (λ i past under.
    (let e : i - length inner ≡ i - first = ap (λ n. i - n) (sym behind.count) in
    subst (λ (b : List ℕ). AreSums K (get_or list (i - length inner) []) unit b) (sym (read i))
    (subst (λ (a : List ℕ). AreSums K a unit (words_at new i)) (sym (ap (λ k. get_or list k []) e ∙ read (i - first)))
    (repeated.each i (omega (arith, behind.count)) (omega (arith, size))))))
    (λ v x b member past under sums.
    sums-packed K p (take place lo ++ v ∷ x) (slice_set (replicate (length lo) 0) place 1) (take place lo ++ suc v ∷ x) b is
    (below-through (take place lo ++ suc v ∷ x) hi p.caps
    (below-behind lo hi place (suc v) x ordered small (omega arith) (In-of_box ls hs x member).high) within)
    (one-more (take place lo) v x (length lo) place count small) sums) in
    record {
      count = size ∙ sym (ap (λ (xs : List (List ℕ)). length xs) boxes ∙ length-box (l ∷ ls) (h ∷ hs) ∙ sym (ap (λ n. (suc h - l) * n) (length-box ls hs)));
      words = sym (take-map (λ (x : Packed K). x.words) all new)
          ∙ ap (λ n. take n list) size
          ∙ filled
          ∙ sym (map-layers (λ (x : List ℕ). packed K p (take place lo ++ x)) inner l (suc h - l))
          ∙ ap (λ (xs : List (List ℕ)). map (λ (x : List ℕ). packed K p (take place lo ++ x)) xs) (sym boxes);
    }

-- where a queue has one number alone, these are the same states
pub behind-same : {K : ℕ} (p : Packing) (lo hi : List ℕ) (place first : ℕ) (list : List (Packed K)) → IsPacking K p → IsBelow lo hi → IsBelow hi p.caps → place < length lo
    → slice_index hi place - slice_index lo place ≡ 0 → (suc (slice_index hi place) - slice_index lo place) * first ≤ length list
    → AreBehind p lo hi (suc place) first list → AreBehind p lo hi place first list
behind-same p lo hi place first list is ordered within small none room behind =
    let least = ordered.each place small in
    let one : suc (slice_index hi place) - slice_index lo place ≡ 1 = omega arith in
    let size : (suc (slice_index hi place) - slice_index lo place) * first ≡ first = ap (λ n. n * first) one ∙ omega arith in
    behind-more p lo hi place first first list list is ordered within small (sym size) (omega (arith, size, room)) behind refl
    (record { each = λ i past under. absurd (omega arith) })

-- one customer is within the capacities, where a box has two numbers of its queue
pub unit-below : (caps lo hi : List ℕ) (place : ℕ) → IsBelow lo hi → IsBelow hi caps → place < length lo → slice_index lo place < slice_index hi place
    → IsBelow (slice_set (replicate (length lo) 0) place 1) caps
unit-below caps lo hi place ordered within small some =
    let same : length lo ≡ length caps = ordered.same_length ∙ within.same_length in
    let most = within.each place (omega (arith, ordered.same_length)) in
    subst (λ n. IsBelow (slice_set (replicate n 0) place 1) caps) (sym same)
    (set-below (zeros caps) caps place 1 (zeros-below caps caps refl) (omega arith))

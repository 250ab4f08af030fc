-- Lemmas. Which states a box lists: those between its two corners.
use Rattle.std.specs.Prelude.{◌≡◌, ℕ, zero, suc, ◌+◌, ◌-◌, ◌<◌, ◌≤◌, List, [], ◌∷◌, length, map, drop, slice_index, slice_set, refl}
use Rattle.std.proofs.Common.{inl, inr, ap, sym, ◌∙◌, subst, arith, length-set, get_or-set_same, get_or-set_other}
use Rattle.std.proofs.lemmas.Bool.{cases_lt, cases_eq}
use Rattle.std.proofs.lemmas.List.{ext_get_or, length-drop, get_or-drop, length-replicate, get_or-replicate, set_past}
use Rattle.psi_state.specs.State.{IsBelow, numbers_from, box, zeros, all_states}
use Rattle.psi_state.specs.Members.{In, AreAmong}
use Rattle.psi_state.proofs.MembersLemmas.{In-map, In-of_map, In-flat_map, In-of_flat_map, In-numbers_from, In-of_numbers_from}
use Rattle.psi_state.specs.Boxes.{IsBetween}

pub below-head : (x : ℕ) (xs : List ℕ) (y : ℕ) (ys : List ℕ) → IsBelow (x ∷ xs) (y ∷ ys) → x ≤ y
below-head x xs y ys h = h.each 0 (omega arith)

pub below-tail : (x : ℕ) (xs : List ℕ) (y : ℕ) (ys : List ℕ) → IsBelow (x ∷ xs) (y ∷ ys) → IsBelow xs ys
below-tail x xs y ys h = record {
  same_length = (let e : suc (length xs) ≡ suc (length ys) = h.same_length in omega arith);
  each = λ i small. h.each (suc i) (omega arith);
}

pub below-cons : (x : ℕ) (xs : List ℕ) (y : ℕ) (ys : List ℕ) → x ≤ y → IsBelow xs ys → IsBelow (x ∷ xs) (y ∷ ys)
below-cons x xs y ys first rest = record { same_length = ap suc rest.same_length; each = each }
  where
    each : (i : ℕ) → i < suc (length xs) → slice_index (x ∷ xs) i ≤ slice_index (y ∷ ys) i
    each zero small = first
    each (suc i) small = rest.each i (omega arith)

-- what holds of two empty lists, and of longer ones that are below one another where it holds of their tails, holds of all that are
pub below-induction : (P : List ℕ → List ℕ → Type 0) → P [] []
    → ((j k : ℕ) (l h : List ℕ) → j ≤ k → IsBelow l h → P l h → P (j ∷ l) (k ∷ h)) → (l h : List ℕ) → IsBelow l h → P l h
below-induction P none more [] [] ordered = none
below-induction P none more [] (k ∷ h) ordered = absurd (let e : 0 ≡ suc (length h) = ordered.same_length in omega arith)
below-induction P none more (j ∷ l) [] ordered = absurd (let e : suc (length l) ≡ 0 = ordered.same_length in omega arith)
below-induction P none more (j ∷ l) (k ∷ h) ordered =
    let rest = below-tail j l k h ordered in
    more j k l h (below-head j l k h ordered) rest (below-induction P none more l h rest)

-- so does what holds of three lists, one between the others
pub between-induction : (P : List ℕ → List ℕ → List ℕ → Type 0) → P [] [] []
    → ((j k v : ℕ) (l h x : List ℕ) → j ≤ v → v ≤ k → IsBetween l h x → P l h x → P (j ∷ l) (k ∷ h) (v ∷ x))
    → (l h x : List ℕ) → IsBetween l h x → P l h x
between-induction P none more l h x between =
    below-induction (λ (xs hs : List ℕ). (ls : List ℕ) → IsBelow ls xs → P ls hs xs) first next x h between.high l between.low
  where
    first : (ls : List ℕ) → IsBelow ls [] → P ls [] []
    first [] low = none
    first (j ∷ ls) low = absurd (let e : suc (length ls) ≡ 0 = low.same_length in omega arith)

    next : (v k : ℕ) (xs hs : List ℕ) → v ≤ k → IsBelow xs hs → ((ls : List ℕ) → IsBelow ls xs → P ls hs xs) → (ls : List ℕ) → IsBelow ls (v ∷ xs) → P ls (k ∷ hs) (v ∷ xs)
    next v k xs hs last high rest [] low = absurd (let e : 0 ≡ suc (length xs) = low.same_length in omega arith)
    next v k xs hs last high rest (j ∷ ls) low =
        (let tail = below-tail j ls v xs low in more j k v ls hs xs (below-head j ls v xs low) last (record { low = tail; high = high }) (rest ls tail))

pub below-itself : (x : List ℕ) → IsBelow x x
below-itself x = record { same_length = refl; each = λ i small. omega arith }

pub below-through : (x y z : List ℕ) → IsBelow x y → IsBelow y z → IsBelow x z
below-through x y z low high = record {
  same_length = low.same_length ∙ high.same_length;
  each = λ i small. (let first : slice_index x i ≤ slice_index y i = low.each i small in
      let within : i < length y = omega (arith, low.same_length) in
      let second : slice_index y i ≤ slice_index z i = high.each i within in omega arith);
}

-- what is left of a state is below what is left of another
pub below-drop : (x y : List ℕ) (n : ℕ) → IsBelow x y → IsBelow (drop n x) (drop n y)
below-drop x y n below = record {
  same_length = omega (arith, length-drop {A = ℕ} n x, length-drop {A = ℕ} n y, below.same_length);
  each = λ i small. rw (get_or-drop {A = ℕ} n x i 0, get_or-drop {A = ℕ} n y i 0) (below.each (n + i) (omega (arith, length-drop {A = ℕ} n x)));
}

-- what holds of the new number at a place, and of the others, holds at each place of a list with another number there
pub set-each : (P : ℕ → ℕ → Type 0) (x : List ℕ) (q v : ℕ) → (q < length x → P q v) → ((i : ℕ) → P i (slice_index x i)) → (i : ℕ) → P i (slice_index (slice_set x q v) i)
set-each P x q v here each i =
    elim (cases_lt q (length x)) [
      | inr past ↦ rw (set_past {X = ℕ} x q v past) (each i)
      | inl place ↦ elim (cases_eq i q) [
        | inl e ↦ rw (e, get_or-set_same {A = ℕ} x q v 0 place) (here place)
        | inr ne ↦ rw (get_or-set_other {A = ℕ} x q i v 0 ne) (each i)
      ]
    ]

-- a state with another number at one place is below another where it was and that number is
pub set-below : (x y : List ℕ) (q v : ℕ) → IsBelow x y → v ≤ slice_index y q → IsBelow (slice_set x q v) y
set-below x y q v below small = record {
  same_length = length-set {A = ℕ} x q v ∙ below.same_length;
  each = λ i within. set-each (λ k n. k < length x → n ≤ slice_index y k) x q v (λ _ _. small) below.each i (omega (arith, length-set {A = ℕ} x q v));
}

pub same-from_below : (x y : List ℕ) → IsBelow x y → IsBelow y x → x ≡ y
same-from_below x y low high = ext_get_or 0 x y low.same_length (λ i small. omega (arith, low.each i small, high.each i (omega (arith, low.same_length))))

pub In-box : (l h x : List ℕ) → IsBelow l x → IsBelow x h → In x (box l h)
In-box l h x low high =
    between-induction (λ ls hs xs. In xs (box ls hs)) (inl refl)
    (λ j k v ls hs xs first last between rest.
    In-flat_map (λ w. map (λ (y : List ℕ). w ∷ y) (box ls hs)) v (v ∷ xs) (numbers_from j (suc k - j))
    (In-numbers_from v j (suc k - j) first (omega arith)) (In-map (λ (y : List ℕ). v ∷ y) xs (box ls hs) rest))
    l h x (record { low = low; high = high })

-- a state between the corners stays between them where one place is given a number that is between theirs
pub set-between : (l h x : List ℕ) (q v : ℕ) → IsBetween l h x → q < length l → slice_index l q ≤ v → v ≤ slice_index h q
    → IsBetween l h (slice_set x q v)
set-between l h x q v between small low high = record {
  low = record {
    same_length = between.low.same_length ∙ sym (length-set {A = ℕ} x q v);
    each = set-each (λ k n. k < length l → slice_index l k ≤ n) x q v (λ _ _. low) between.low.each;
  };
  high = set-below x h q v between.high high;
}

pub In-of_box : (l h x : List ℕ) → In x (box l h) → IsBetween l h x
In-of_box [] [] x member = elim member [ inl e ↦ subst (λ (y : List ℕ). IsBetween [] [] y) (sym e) (record { low = below-itself []; high = below-itself [] }) | inr none ↦ absurd none ]
In-of_box [] (k ∷ h) x member = absurd member
In-of_box (j ∷ l) [] x member = absurd member
In-of_box (j ∷ l) (k ∷ h) x member =
    let found = In-of_flat_map (λ w. map (λ (y : List ℕ). w ∷ y) (box l h)) x (numbers_from j (suc k - j)) member in
    let number = In-of_numbers_from found.0 j (suc k - j) found.1 in
    let tail = In-of_map (λ (y : List ℕ). found.0 ∷ y) x (box l h) found.2 in
    let rest = In-of_box l h tail.0 tail.1 in
    let first : j ≤ found.0 = number.0 in
    let above : found.0 < j + (suc k - j) = number.1 in
    let last : found.0 ≤ k = omega arith in
    subst (λ (y : List ℕ). IsBetween (j ∷ l) (k ∷ h) y) (sym tail.2)
    (record { low = below-cons j l found.0 tail.0 first rest.low; high = below-cons found.0 tail.0 k h last rest.high })

pub zeros-below : (caps x : List ℕ) → length x ≡ length caps → IsBelow (zeros caps) x
zeros-below caps x same = record {
  same_length = length-replicate {A = ℕ} (length caps) 0 ∙ sym same;
  each = λ i small. (let count : length (zeros caps) ≡ length caps = length-replicate {A = ℕ} (length caps) 0 in
      let within : i < length caps = omega arith in
      let e : slice_index (zeros caps) i ≡ 0 = get_or-replicate {A = ℕ} (length caps) i 0 0 within in omega arith);
}

pub In-all_states : (caps x : List ℕ) → IsBelow x caps → In x (all_states caps)
In-all_states caps x within = In-box (zeros caps) caps x (zeros-below caps x within.same_length) within

pub In-of_all_states : (caps x : List ℕ) → In x (all_states caps) → IsBelow x caps
In-of_all_states caps x member = (In-of_box (zeros caps) caps x member).high

-- both corners of a box are in it
pub In-low : (l h : List ℕ) → IsBelow l h → In l (box l h)
In-low l h ordered = In-box l h l (below-itself l) ordered

pub In-high : (l h : List ℕ) → IsBelow l h → In h (box l h)
In-high l h ordered = In-box l h h ordered (below-itself h)

-- a box lies in another where its corners do
pub AreAmong-box : (l h m k : List ℕ) → IsBelow m l → IsBelow h k → AreAmong (box l h) (box m k)
AreAmong-box l h m k low high = record {
  each = λ x member. (let between = In-of_box l h x member in
      In-box m k x (below-through m l x low between.low) (below-through x h k between.high high));
}

-- and only there
pub below-low : (l h m k : List ℕ) → IsBelow l h → AreAmong (box l h) (box m k) → IsBelow m l
below-low l h m k ordered among = (In-of_box m k l (among.each l (In-low l h ordered))).low

pub below-high : (l h m k : List ℕ) → IsBelow l h → AreAmong (box l h) (box m k) → IsBelow h k
below-high l h m k ordered among = (In-of_box m k h (among.each h (In-high l h ordered))).high

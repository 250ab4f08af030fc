-- One addition a word tells on which side of their bounds the numbers are.
use Rattle.std.specs.Prelude.{◌≡◌, ℕ, zero, suc, ◌+◌, ◌-◌, ◌*◌, ◌/◌, ◌%◌, ◌^◌, ◌<◌, ◌≤◌, Bool, true, false, ◌&&◌, List, [], ◌∷◌, length, map, slice_index, slice_index_or, nat_eq, nat_le, nat_lt, bit_and}
use Rattle.std.proofs.Common.{refl, ap, ap₂, sym, subst, ◌∙◌, arith, pow_pos, ⊎_elim, eq-eqb, ne_eqb, le-leb, lt-ltb, le-ltb}
use Rattle.std.proofs.lemmas.Bool.{cases_lt, lt-leb}
use Rattle.std.proofs.lemmas.List.{get_or_past, get_or-map, length-map}
use Rattle.std.proofs.lemmas.Nat.Bits.{and_pow}
use Rattle.std.proofs.Math.Nat.{div-eq_of_lt, div-eq_of_lt-le}
use Rattle.std.specs.Int.Bits.{and_zero_r}
use Rattle.psi_event.specs.declared.sides.Side.{Side}
use Rattle.psi_event.specs.declared.sides.Side.TheVariants.{Any, AtLeast, Below}
use Rattle.psi_event.specs.Piecewise.{is_on, all_on}
use Rattle.psi_follow_packed.specs.Moves.{guard, mark_of, guard_of, wanted_of}
use Rattle.psi_follow_packed.proofs.DigitsLemmas.{all_below}
use Rattle.psi_follow_packed.proofs.WordsLemmas.{Fit, twice-guard}

-- ---- tests at places

pub all_below-same : (n : ℕ) (p q : ℕ → Bool) → ((j : ℕ) → p j ≡ q j) → all_below n p ≡ all_below n q
all_below-same zero p q same = refl
all_below-same (suc n) p q same = ap₂ ◌&&◌ (same 0) (all_below-same n (λ j. p (suc j)) (λ j. q (suc j)) (λ j. same (suc j)))

and-assoc : (a b c : Bool) → (a && (b && c)) ≡ ((a && b) && c)
and-assoc true b c = refl
and-assoc false b c = refl

pub all_below-add : (m n : ℕ) (p : ℕ → Bool) → all_below (m + n) p ≡ (all_below m p && all_below n (λ j. p (m + j)))
all_below-add zero n p =
    let e : 0 + n ≡ n = omega arith in
    ap (λ k. all_below k p) e ∙ all_below-same n p (λ j. p (0 + j)) (λ j. let same : j ≡ 0 + j = omega arith in ap p same)
all_below-add (suc m) n p =
    let e : suc m + n ≡ suc (m + n) = omega arith in
    ap (λ k. all_below k p) e
    ∙ ap (λ b. p 0 && b) (all_below-add m n (λ j. p (suc j)))
    ∙ and-assoc (p 0) (all_below m (λ j. p (suc j))) (all_below n (λ j. p (suc (m + j))))
    ∙ ap (λ b. (p 0 && all_below m (λ j. p (suc j))) && b)
    (all_below-same n (λ j. p (suc (m + j))) (λ j. p (suc m + j)) (λ j. let same : suc (m + j) ≡ suc m + j = omega arith in ap p same))

pub all_below-true : (n : ℕ) (p : ℕ → Bool) → ((j : ℕ) → p j ≡ true) → all_below n p ≡ true
all_below-true zero p each = refl
all_below-true (suc n) p each = ap₂ ◌&&◌ (each 0) (all_below-true n (λ j. p (suc j)) (λ j. each (suc j)))

-- the test of the number at a place
abbrev pub test_at : List Side → List ℕ → List ℕ → ℕ → Bool
test_at sides bounds x q = is_on (slice_index_or sides q Any) (slice_index bounds q) (slice_index x q)

pub all_on-is : (n : ℕ) (sides : List Side) (bounds x : List ℕ) → length sides ≡ length x → length bounds ≡ length x → length x ≤ n
    → all_on sides bounds x ≡ all_below n (test_at sides bounds x)
all_on-is n [] [] [] same long few = sym (all_below-true n (test_at [] [] []) (λ j. refl))
all_on-is n [] [] (v ∷ x) same long few = absurd (omega arith)
all_on-is n [] (b ∷ bounds) [] same long few = absurd (omega arith)
all_on-is n [] (b ∷ bounds) (v ∷ x) same long few = absurd (omega arith)
all_on-is n (s ∷ sides) [] [] same long few = absurd (omega arith)
all_on-is n (s ∷ sides) [] (v ∷ x) same long few = absurd (omega arith)
all_on-is n (s ∷ sides) (b ∷ bounds) [] same long few = absurd (omega arith)
all_on-is zero (s ∷ sides) (b ∷ bounds) (v ∷ x) same long few = absurd (omega arith)
all_on-is (suc n) (s ∷ sides) (b ∷ bounds) (v ∷ x) same long few = ap (λ t. is_on s b v && t) (all_on-is n sides bounds x (omega arith) (omega arith) (omega arith))

-- ---- one field

-- the guard of a number below twice the guard is up where the number is at the guard or above it
guard-up : (bits y : ℕ) → 1 ≤ bits → y < 2 ^ bits → 2 ^ (bits - 1) ≤ y → bit_and y (2 ^ (bits - 1)) ≡ 2 ^ (bits - 1)
guard-up bits y some small up =
    let low : 1 * 2 ^ (bits - 1) ≤ y = omega arith in
    let high : y < (1 + 1) * 2 ^ (bits - 1) = omega (arith, twice-guard bits some) in
    let one : y / 2 ^ (bits - 1) ≡ 1 = div-eq_of_lt-le (2 ^ (bits - 1)) low high in
    and_pow y (bits - 1) ∙ ap (λ n. n % 2 * 2 ^ (bits - 1)) one ∙ omega arith

guard-down : (bits y : ℕ) → y < 2 ^ (bits - 1) → bit_and y (2 ^ (bits - 1)) ≡ 0
guard-down bits y small =
    let none : y / 2 ^ (bits - 1) ≡ 0 = div-eq_of_lt small in
    and_pow y (bits - 1) ∙ ap (λ n. n % 2 * 2 ^ (bits - 1)) none ∙ omega arith

-- a number is tested against a bound, both below the guard
module _ (bits v b : ℕ) (some : 1 ≤ bits) (small : v < 2 ^ (bits - 1)) (bounded : b < 2 ^ (bits - 1)) where
  raised-lt : v + (2 ^ (bits - 1) - b) < 2 ^ bits
  raised-lt = omega (arith, twice-guard bits some)

  at_least : nat_eq (bit_and (v + (2 ^ (bits - 1) - b)) (2 ^ (bits - 1))) (2 ^ (bits - 1)) ≡ nat_le b v
  at_least = ⊎_elim
      (λ below. let zero_is = guard-down bits (v + (2 ^ (bits - 1) - b)) (omega arith) in
      ne_eqb _ _ (λ same. omega (arith, zero_is, same, pow_pos (bits - 1))) ∙ sym (lt-leb b v below))
      (λ above. eq-eqb _ _ (guard-up bits (v + (2 ^ (bits - 1) - b)) some raised-lt (omega arith)) ∙ sym (le-leb b v above))
      (cases_lt v b)

  below : nat_eq (bit_and (v + (2 ^ (bits - 1) - b)) (2 ^ (bits - 1))) 0 ≡ nat_lt v b
  below = ⊎_elim
      (λ under. eq-eqb _ _ (guard-down bits (v + (2 ^ (bits - 1) - b)) (omega arith)) ∙ sym (lt-ltb v b under))
      (λ above. let up = guard-up bits (v + (2 ^ (bits - 1) - b)) some raised-lt (omega arith) in
      ne_eqb _ _ (λ same. omega (arith, up, same, pow_pos (bits - 1))) ∙ sym (le-ltb v b above))
      (cases_lt v b)

  pub field-test : (side : Side) → nat_eq (bit_and (v + (guard bits - b)) (guard_of bits side)) (wanted_of bits side) ≡ is_on side b v
  field-test Any = ap (λ n. nat_eq n 0) (and_zero_r (v + (2 ^ (bits - 1) - b)))
  field-test AtLeast = at_least
  field-test Below = below

-- ---- the numbers of the masks

guard-lt : (bits : ℕ) → 1 ≤ bits → 2 ^ (bits - 1) < 2 ^ bits
guard-lt bits some = omega (arith, twice-guard bits some, pow_pos (bits - 1))

pub mark_of-lt : (bits down : ℕ) (side : Side) → 1 ≤ bits → down ≤ guard bits → mark_of (guard bits) down side < 2 ^ bits
mark_of-lt bits down Any some few = pow_pos bits
mark_of-lt bits down AtLeast some few = guard-lt bits some
mark_of-lt bits down Below some few = omega (arith, guard-lt bits some)

-- a number of a list that is made number by number
pub mapped-at : (f : ℕ → ℕ) (x : List ℕ) (q : ℕ) → q < length x → slice_index (map f x) q ≡ f (slice_index x q)
mapped-at f x q small = get_or-map f x q 0 0 small

-- and one that is made of a side
pub sided-at : (f : Side → ℕ) (sides : List Side) (q : ℕ) → q < length sides → slice_index (map f sides) q ≡ f (slice_index_or sides q Any)
sided-at f sides q small = get_or-map f sides q Any 0 small

pub mapped-past : {A : Type 0} (f : A → ℕ) (x : List A) (q : ℕ) → length x ≤ q → slice_index (map f x) q ≡ 0
mapped-past f x q past = get_or_past (map f x) q 0 (omega (arith, length-map x f))

pub sided-fit : (bits : ℕ) (f : Side → ℕ) (sides : List Side) → ((side : Side) → f side < 2 ^ bits) → Fit bits (map f sides)
sided-fit bits f sides each = record {
  each = λ q. ⊎_elim
      (λ small. subst (λ v. v < 2 ^ bits) (sym (sided-at f sides q small)) (each (slice_index_or sides q Any)))
      (λ past. subst (λ v. v < 2 ^ bits) (sym (mapped-past f sides q past)) (pow_pos bits))
      (cases_lt q (length sides));
}

-- The tests of all words are the tests of all numbers.
use Rattle.std.specs.Prelude.{◌≡◌, ℕ, zero, suc, ◌+◌, ◌-◌, ◌*◌, ◌%◌, ◌^◌, ◌<◌, ◌≤◌, Bool, ◌&&◌, List, length, map, slice_index, slice_index_or, nat_eq, bit_and}
use Rattle.std.proofs.Common.{ap, ap₂, sym, ◌∙◌, arith, ⊎_elim}
use Rattle.std.proofs.lemmas.Bool.{cases_lt}
use Rattle.std.proofs.lemmas.List.{get_or_past}
use Rattle.std.proofs.Math.Nat.{mod-eq_of_lt}
use Rattle.std.specs.Int.Bits.{and_zero_r}
use Rattle.std.proofs.lemmas.Nat.{and_le_r}
use Rattle.psi_state.specs.State.{IsBelow}
use Rattle.psi_event.specs.declared.sides.Side.{Side}
use Rattle.psi_event.specs.declared.sides.Side.TheVariants.{Any}
use Rattle.psi_event.specs.declared.piecewise.Piece.{Piece}
use Rattle.psi_event.specs.Piecewise.{is_on, all_on, IsPiece}
use Rattle.psi_follow_packed.specs.Packed.{Packing, IsPacking, packed}
use Rattle.psi_follow_packed.specs.Moves.{Masks, holds, guard, guard_of, wanted_of, AreMasksOf}
use Rattle.psi_follow_packed.proofs.DigitsLemmas.{digits, all_below, AreDigits, digits-add, digits-and, digits-test}
use Rattle.psi_follow_packed.proofs.WordsLemmas.{fields_of, Fit, AreDigits-fields, digits-word, packed-at, below-guard, twice-guard}
use Rattle.psi_follow_packed.proofs.TestingLemmas.{all_below-add, all_on-is, test_at, field-test, mark_of-lt, mapped-at, mapped-past, sided-at, sided-fit}

-- the numbers of four packed lists in one field: the second raises the first so that, of the guards of the third, those of the
-- fourth are up exactly where a test holds
pub record AreTested (bits : ℕ) (x o g w : List ℕ) (t : ℕ → Bool) : Type 0 where
  pub raised : (q : ℕ) → slice_index x q + slice_index o q < 2 ^ bits
  pub guards : Fit bits g
  pub wanted : Fit bits w
  pub test : (q : ℕ) → nat_eq (bit_and (slice_index x q + slice_index o q) (slice_index g q)) (slice_index w q) ≡ t q

module _ (count : ℕ) (p : Packing) (x o g w : List ℕ) (t : ℕ → Bool) (is : IsPacking count p) (tested : AreTested p.bits x o g w t) where
  raised-digits : (at : ℕ) → AreDigits p.bits p.fields (λ j. fields_of p.fields x at j + fields_of p.fields o at j)
  raised-digits at = record { each = λ j small. tested.raised (at * p.fields + j) }

  raised-word : (at : ℕ) → (digits p.bits p.fields (fields_of p.fields x at) + digits p.bits p.fields (fields_of p.fields o at)) % 2 ^ 64
      ≡ digits p.bits p.fields (λ j. fields_of p.fields x at j + fields_of p.fields o at j)
  raised-word at =
      ap (λ n. n % 2 ^ 64) (sym (digits-add p.bits p.fields (fields_of p.fields x at) (fields_of p.fields o at)))
      ∙ mod-eq_of_lt (digits-word count p (λ j. fields_of p.fields x at j + fields_of p.fields o at j) is (raised-digits at))

  and-digits : (at : ℕ) → AreDigits p.bits p.fields (λ j. bit_and (fields_of p.fields x at j + fields_of p.fields o at j) (fields_of p.fields g at j))
  and-digits at = record {
    each = λ j small. omega (arith, and_le_r (fields_of p.fields x at j + fields_of p.fields o at j) (fields_of p.fields g at j), tested.guards.each (at * p.fields + j));
  }

  digits-tested : (at : ℕ)
      → nat_eq (bit_and ((digits p.bits p.fields (fields_of p.fields x at) + digits p.bits p.fields (fields_of p.fields o at)) % 2 ^ 64)
      (digits p.bits p.fields (fields_of p.fields g at)))
      (digits p.bits p.fields (fields_of p.fields w at))
      ≡ all_below p.fields (λ j. t (at * p.fields + j))
  digits-tested at =
      ap (λ n. nat_eq (bit_and n (digits p.bits p.fields (fields_of p.fields g at))) (digits p.bits p.fields (fields_of p.fields w at))) (raised-word at)
      ∙ ap (λ n. nat_eq n (digits p.bits p.fields (fields_of p.fields w at)))
      (digits-and p.bits p.fields (λ j. fields_of p.fields x at j + fields_of p.fields o at j) (fields_of p.fields g at)
      (raised-digits at) (AreDigits-fields p.bits p.fields g at tested.guards))
      ∙ digits-test p.bits p.fields (λ j. bit_and (fields_of p.fields x at j + fields_of p.fields o at j) (fields_of p.fields g at j)) (fields_of p.fields w at)
      (λ j. t (at * p.fields + j)) (and-digits at) (AreDigits-fields p.bits p.fields w at tested.wanted) (λ j small. tested.test (at * p.fields + j))

  word-tested : (at : ℕ) → at < count
      → nat_eq (bit_and ((slice_index (packed count p x) at + slice_index (packed count p o) at) % 2 ^ 64) (slice_index (packed count p g) at))
      (slice_index (packed count p w) at)
      ≡ all_below p.fields (λ j. t (at * p.fields + j))
  word-tested at small =
      ap₂ (λ a b. nat_eq (bit_and ((a + b) % 2 ^ 64) (slice_index (packed count p g) at)) (slice_index (packed count p w) at)) (packed-at count p x at small) (packed-at count p o at small)
      ∙ ap₂ (λ a b. nat_eq (bit_and ((digits p.bits p.fields (fields_of p.fields x at) + digits p.bits p.fields (fields_of p.fields o at)) % 2 ^ 64) a) b)
      (packed-at count p g at small) (packed-at count p w at small)
      ∙ digits-tested at

  pub holds-tested : (change : List ℕ) (n : ℕ) → n ≤ count
      → holds n (packed count p o) (record { guards = packed count p g; wanted = packed count p w; change = change }) (packed count p x)
      ≡ all_below (n * p.fields) t
  holds-tested change zero few =
      let e : 0 * p.fields ≡ 0 = omega arith in ap (λ k. all_below k t) (sym e)
  holds-tested change (suc n) few =
      let e : n * p.fields + p.fields ≡ suc n * p.fields = omega arith in
      ap₂ ◌&&◌ (holds-tested change n (omega arith)) (word-tested n (omega arith)) ∙ sym (all_below-add (n * p.fields) p.fields t) ∙ ap (λ k. all_below k t) e

-- ---- the masks of a piece

-- a number and what raises it to the guard at its bound fit a field
pub raised-at : (count : ℕ) (p : Packing) (bounds x : List ℕ) → IsPacking count p → IsBelow x p.caps
    → (q : ℕ) → slice_index x q + slice_index (map (λ v. guard p.bits - v) bounds) q < 2 ^ p.bits
raised-at count p bounds x is below q = ⊎_elim
    (λ small. omega (arith, mapped-at (λ v. guard p.bits - v) bounds q small, below-guard count p x is below q, twice-guard p.bits (omega (arith, is.least))))
    (λ past. omega (arith, mapped-past (λ v. guard p.bits - v) bounds q past, below-guard count p x is below q, twice-guard p.bits (omega (arith, is.least))))
    (cases_lt q (length bounds))

module _ (count : ℕ) (p : Packing) (sides : List Side) (bounds x : List ℕ) (is : IsPacking count p)
    (along : length sides ≡ length p.caps) (bounded : IsBelow bounds p.caps) (below : IsBelow x p.caps) where
  some : 1 ≤ p.bits
  some = omega (arith, is.least)

  test-at : (q : ℕ) → nat_eq (bit_and (slice_index x q + slice_index (map (λ v. guard p.bits - v) bounds) q) (slice_index (map (guard_of p.bits) sides) q))
      (slice_index (map (wanted_of p.bits) sides) q) ≡ test_at sides bounds x q
  test-at q = ⊎_elim
      (λ small. let marked : q < length sides = omega (arith, along, bounded.same_length) in
      ap (λ n. nat_eq (bit_and (slice_index x q + n) (slice_index (map (guard_of p.bits) sides) q)) (slice_index (map (wanted_of p.bits) sides) q))
      (mapped-at (λ v. guard p.bits - v) bounds q small)
      ∙ ap₂ (λ a b. nat_eq (bit_and (slice_index x q + (guard p.bits - slice_index bounds q)) a) b)
      (sided-at (guard_of p.bits) sides q marked) (sided-at (wanted_of p.bits) sides q marked)
      ∙ field-test p.bits (slice_index x q) (slice_index bounds q) some (below-guard count p x is below q) (below-guard count p bounds is bounded q) (slice_index_or sides q Any))
      (λ past. let unmarked : length sides ≤ q = omega (arith, along, bounded.same_length) in
      ap₂ (λ a b. nat_eq (bit_and (slice_index x q + slice_index (map (λ v. guard p.bits - v) bounds) q) a) b)
      (mapped-past (guard_of p.bits) sides q unmarked) (mapped-past (wanted_of p.bits) sides q unmarked)
      ∙ ap (λ n. nat_eq n 0) (and_zero_r (slice_index x q + slice_index (map (λ v. guard p.bits - v) bounds) q))
      ∙ ap (λ s. is_on s (slice_index bounds q) (slice_index x q)) (sym (get_or_past sides q Any unmarked)))
      (cases_lt q (length bounds))

  masks-tested : AreTested p.bits x (map (λ v. guard p.bits - v) bounds) (map (guard_of p.bits) sides) (map (wanted_of p.bits) sides) (test_at sides bounds x)
  masks-tested = record {
    raised = raised-at count p bounds x is below;
    guards = sided-fit p.bits (guard_of p.bits) sides (λ side. mark_of-lt p.bits (guard p.bits) side some (omega arith));
    wanted = sided-fit p.bits (wanted_of p.bits) sides (λ side. mark_of-lt p.bits 0 side some (omega arith));
    test = test-at;
  }

  masks-hold : (change : List ℕ)
      → holds count (packed count p (map (λ v. guard p.bits - v) bounds))
      (record { guards = packed count p (map (guard_of p.bits) sides); wanted = packed count p (map (wanted_of p.bits) sides); change = change }) (packed count p x)
      ≡ all_on sides bounds x
  masks-hold change =
      let few : count ≤ count = omega arith in
      holds-tested count p x (map (λ v. guard p.bits - v) bounds) (map (guard_of p.bits) sides) (map (wanted_of p.bits) sides) (test_at sides bounds x) is masks-tested change count few
      ∙ sym (all_on-is (count * p.fields) sides bounds x (omega (arith, along, below.same_length)) (omega (arith, bounded.same_length, below.same_length)) (omega (arith, is.enough, below.same_length)))

-- the masks of a piece hold where the piece applies
pub holds-is : (count : ℕ) (p : Packing) (piece : Piece) (bounds x offsets : List ℕ) (m : Masks) → IsPacking count p → IsPiece p.caps piece → IsBelow bounds p.caps → IsBelow x p.caps
    → offsets ≡ packed count p (map (λ v. guard p.bits - v) bounds) → AreMasksOf count p piece m
    → holds count offsets m (packed count p x) ≡ all_on piece.sides bounds x
holds-is count p piece bounds x offsets m is valid bounded below raising masks =
    ap (λ o. holds count o m (packed count p x)) raising
    ∙ ap₂ (λ g w. holds count (packed count p (map (λ v. guard p.bits - v) bounds)) (record { guards = g; wanted = w; change = m.change }) (packed count p x)) masks.guards masks.wanted
    ∙ masks-hold count p piece.sides bounds x is valid.sides bounded below m.change

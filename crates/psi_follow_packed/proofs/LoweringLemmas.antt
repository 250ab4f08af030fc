-- Tests by the lowered offsets: where the guards that are wanted up are taken off, none of those that are looked at is to be up.
use Rattle.std.specs.Prelude.{◌≡◌, ℕ, suc, ◌+◌, ◌-◌, ◌*◌, ◌%◌, ◌^◌, ◌<◌, ◌≤◌, true, false, ◌&&◌, List, length, map, slice_index, slice_index_or, nat_eq, bit_and, bit_or}
use Rattle.std.proofs.Common.{ap, ap₂, sym, subst, ◌∙◌, arith, ⊎_elim, eq-eqb, ne_eqb}
use Rattle.std.proofs.lemmas.Bool.{cases_lt}
use Rattle.std.specs.Int.Bits.{and_zero_l}
use Rattle.std.proofs.lemmas.Nat.{and_comm, and_assoc, and-not, and_or_self, and_or_apart, or_comm, or_disjoint, or_lt, le_or_l}
use Rattle.psi_event.specs.declared.sides.Side.{Side}
use Rattle.psi_event.specs.declared.sides.Side.TheVariants.{Any, AtLeast, Below}
use Rattle.psi_follow_packed.specs.Packed.{Packing, IsPacking, packed}
use Rattle.psi_follow_packed.specs.Moves.{Moving, holds, guard, guard_of, wanted_of, IsLowered}
use Rattle.psi_follow_packed.proofs.DigitsLemmas.{digits-and, digits-same}
use Rattle.psi_follow_packed.proofs.WordsLemmas.{fields_of, Fit, AreDigits-fields, packed-at, packed-lt}
use Rattle.psi_follow_packed.proofs.TestingLemmas.{mark_of-lt, mapped-past, sided-at, sided-fit}

pub and-same : (w : ℕ) → bit_and w w ≡ w
and-same w =
    let none : bit_or 0 w ≡ w = or_disjoint 0 w (and_zero_l w) ∙ omega arith in
    ap (λ v. bit_and v w) (sym none) ∙ and_or_self w 0

-- a word that wanted guards are added to, of which those that are looked at are none before
module _ (up raised guards wanted : ℕ) (small : up < 2 ^ 64) (few : wanted < 2 ^ 64) (sum : raised ≡ (up + wanted) % 2 ^ 64) (among : bit_and wanted guards ≡ wanted) where
  wanted-up : bit_and up guards ≡ 0 → bit_and raised guards ≡ wanted
  wanted-up none =
      let apart : bit_and up wanted ≡ 0 =
      ap (bit_and up) (sym among ∙ and_comm wanted guards) ∙ sym (and_assoc wanted up guards) ∙ ap (λ n. bit_and n wanted) none ∙ and_zero_l wanted in
      let both : bit_or up wanted ≡ up + wanted = or_disjoint up wanted apart in
      let fits : bit_or up wanted < 2 ^ 64 = or_lt 64 up wanted small few in
      let same : raised ≡ bit_or up wanted = omega (arith, sum, both, fits) in
      ap (λ n. bit_and n guards) (same ∙ or_comm up wanted) ∙ and_or_apart guards wanted up none ∙ among

  none-up : bit_and raised guards ≡ wanted → bit_and up guards ≡ 0
  none-up met =
      let below : raised < 2 ^ 64 = omega (arith, sum) in
      let within : bit_and wanted raised ≡ wanted =
      and_comm wanted raised ∙ ap (bit_and raised) (sym among ∙ and_comm wanted guards) ∙ sym (and_assoc wanted raised guards) ∙ ap (λ n. bit_and n wanted) met ∙ and-same wanted in
      let parts : bit_and (2 ^ 64 - 1 - wanted) raised + bit_and wanted raised ≡ raised = and-not 64 wanted raised few below in
      let same : up ≡ bit_and (2 ^ 64 - 1 - wanted) raised = omega (arith, sum, parts, within, below, small, few) in
      let own : bit_and (2 ^ 64 - 1 - wanted) wanted + bit_and wanted wanted ≡ wanted = and-not 64 wanted wanted few few in
      let nothing : bit_and (2 ^ 64 - 1 - wanted) wanted ≡ 0 = omega (arith, own, and-same wanted) in
      ap (λ n. bit_and n guards) same ∙ and_assoc guards (2 ^ 64 - 1 - wanted) raised ∙ ap (bit_and (2 ^ 64 - 1 - wanted)) met ∙ nothing

  test-lowered : nat_eq (bit_and up guards) 0 ≡ nat_eq (bit_and raised guards) wanted
  test-lowered = ⊎_elim
      (λ some. ne_eqb _ _ (λ none. omega (arith, some, none)) ∙ sym (ne_eqb _ _ (λ met. omega (arith, some, none-up met))))
      (λ few. let none : bit_and up guards ≡ 0 = omega (arith, few) in eq-eqb _ _ none ∙ sym (eq-eqb _ _ (wanted-up none)))
      (cases_lt 0 (bit_and up guards))

-- nothing is up in two words exactly where nothing is up in either
or-none : (a b : ℕ) → nat_eq (bit_or a b) 0 ≡ (nat_eq a 0 && nat_eq b 0)
or-none a b = ⊎_elim
    (λ some. let e : nat_eq a 0 ≡ false = ne_eqb a 0 (λ none. omega (arith, some, none)) in
    ne_eqb _ _ (λ none. omega (arith, some, none, le_or_l a b)) ∙ sym (ap (λ t. t && nat_eq b 0) e))
    (λ few. let none : a ≡ 0 = omega (arith, few) in
    let e : nat_eq a 0 ≡ true = eq-eqb a 0 none in
    let same : bit_or a b ≡ b = ap (λ n. bit_or n b) none ∙ or_disjoint 0 b (and_zero_l b) ∙ omega arith in
    ap (λ n. nat_eq n 0) same ∙ sym (ap (λ t. t && nat_eq b 0) e))
    (cases_lt 0 a)

-- the test of one word more
pub none-more : (count at : ℕ) (m : Moving) (x : List ℕ) (up raised seen next v o g : ℕ) → IsLowered count m → at < count → nat_eq up 0 ≡ holds at m.offsets m.first x
    → raised ≡ (v + o) % 2 ^ 64 → v ≡ slice_index x at → o ≡ slice_index m.lowered at → seen ≡ bit_and raised g → g ≡ slice_index m.first.guards at → next ≡ bit_or up seen
    → nat_eq next 0 ≡ holds (at + 1) m.offsets m.first x
none-more count at m x up raised seen next v o g lowered small is sum first second masked looked both =
    let e : suc at ≡ at + 1 = omega arith in
    let with_wanted : (slice_index x at + slice_index m.offsets at) % 2 ^ 64 ≡ (raised + slice_index m.first.wanted at) % 2 ^ 64 =
    omega (arith, sum, first, second, lowered.less at small, lowered.small at small) in
    let under : raised < 2 ^ 64 = omega (arith, sum) in
    ap (λ n. nat_eq n 0) both ∙ or-none up seen
    ∙ ap₂ ◌&&◌ is
    (ap (λ n. nat_eq n 0) (masked ∙ ap (bit_and raised) looked)
    ∙ test-lowered raised ((slice_index x at + slice_index m.offsets at) % 2 ^ 64) (slice_index m.first.guards at) (slice_index m.first.wanted at) under (lowered.small at small) with_wanted
    (lowered.among at small))
    ∙ ap (λ n. holds n m.offsets m.first x) e

-- ---- what is wanted up is looked at

module _ (bits : ℕ) (some : 1 ≤ bits) (sides : List Side) where
  among-side : (side : Side) → bit_and (wanted_of bits side) (guard_of bits side) ≡ wanted_of bits side
  among-side Any = and_zero_l 0
  among-side AtLeast = and-same (guard bits)
  among-side Below = and_zero_l (guard bits)

  among-at : (q : ℕ) → bit_and (slice_index (map (wanted_of bits) sides) q) (slice_index (map (guard_of bits) sides) q) ≡ slice_index (map (wanted_of bits) sides) q
  among-at q = ⊎_elim
      (λ small. ap₂ bit_and (sided-at (wanted_of bits) sides q small) (sided-at (guard_of bits) sides q small) ∙ among-side (slice_index_or sides q Any)
      ∙ sym (sided-at (wanted_of bits) sides q small))
      (λ past. let none = mapped-past (wanted_of bits) sides q past in
      ap (λ v. bit_and v (slice_index (map (guard_of bits) sides) q)) none ∙ and_zero_l (slice_index (map (guard_of bits) sides) q) ∙ sym none)
      (cases_lt q (length sides))

  pub wanted-fit : Fit bits (map (wanted_of bits) sides)
  wanted-fit = sided-fit bits (wanted_of bits) sides (λ side. mark_of-lt bits 0 side some (omega arith))

  pub guards-fit : Fit bits (map (guard_of bits) sides)
  guards-fit = sided-fit bits (guard_of bits) sides (λ side. mark_of-lt bits (guard bits) side some (omega arith))

-- the offsets less the wanted guards are lowered ones
pub lowered-is : (count : ℕ) (p : Packing) (sides : List Side) (m : Moving) → IsPacking count p
    → m.first.guards ≡ packed count p (map (guard_of p.bits) sides) → m.first.wanted ≡ packed count p (map (wanted_of p.bits) sides)
    → ((w : ℕ) → w < count → slice_index m.lowered w ≡ (slice_index m.offsets w + (2 ^ 64 - slice_index m.first.wanted w)) % 2 ^ 64)
    → IsLowered count m
lowered-is count p sides m is guards wanted less =
    let some : 1 ≤ p.bits = omega (arith, is.least) in
    let fit = wanted-fit p.bits some sides in
    let at = λ (w : ℕ). fields_of p.fields (map (wanted_of p.bits) sides) w in
    record {
      less = less;
      among = λ w small.
          ap₂ (λ (a b : List ℕ). bit_and (slice_index a w) (slice_index b w)) wanted guards
          ∙ ap₂ bit_and (packed-at count p (map (wanted_of p.bits) sides) w small) (packed-at count p (map (guard_of p.bits) sides) w small)
          ∙ digits-and p.bits p.fields (at w) (fields_of p.fields (map (guard_of p.bits) sides) w)
          (AreDigits-fields p.bits p.fields (map (wanted_of p.bits) sides) w fit) (AreDigits-fields p.bits p.fields (map (guard_of p.bits) sides) w (guards-fit p.bits some sides))
          ∙ digits-same p.bits p.fields (λ j. bit_and (at w j) (fields_of p.fields (map (guard_of p.bits) sides) w j)) (at w)
          (λ j within. among-at p.bits some sides (w * p.fields + j))
          ∙ sym (packed-at count p (map (wanted_of p.bits) sides) w small)
          ∙ ap (λ (a : List ℕ). slice_index a w) (sym wanted);
      small = λ w small. subst (λ (a : List ℕ). slice_index a w < 2 ^ 64) (sym wanted) (packed-lt count p (map (wanted_of p.bits) sides) is fit w);
    }

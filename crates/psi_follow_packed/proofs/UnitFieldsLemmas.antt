-- The fields of the words that an event of single customers makes of packed states.
use Rattle.std.specs.Prelude.{◌≡◌, ℕ, ◌+◌, ◌-◌, ◌*◌, ◌/◌, ◌%◌, ◌^◌, ◌<◌, ◌≤◌, min, List, length, slice_index, bit_and}
use Rattle.std.proofs.Common.{inl, inr, ap, ap₂, sym, ◌∙◌, arith, pow_pos, mod-lt}
use Rattle.std.proofs.Math.Nat.{div-eq_of_lt, div-eq_of_lt-le, mod-eq_of_lt, div-add-mod', mul-le-mul_right}
use Rattle.std.proofs.lemmas.Bool.{cases_lt, cases_eq}
use Rattle.std.proofs.lemmas.Nat.{and_mask, same_from_place}
use Rattle.std.specs.Int.Bits.{and_zero_r}
use Rattle.psi_event.specs.declared.sides.Side.{Side}
use Rattle.psi_event.specs.declared.sides.Side.TheVariants.{Any, AtLeast, Below}
use Rattle.psi_follow_packed.specs.Packed.{Packing, IsPacking}
use Rattle.psi_follow_packed.specs.UnitEvents.{IsUnitAt}
use Rattle.psi_follow_packed.specs.Inner.BitsKept.{HasNone, HasOne, HasTwoIn, HasTwoOf, HasSeveral, AreEach, ChoosesAlone}
use Rattle.psi_follow_packed.proofs.DigitsLemmas.{digits, digits-same, digits-zero, digits-and}
use Rattle.psi_follow_packed.proofs.WordsLemmas.{digits-word}
use Rattle.psi_follow_packed.proofs.LoweringLemmas.{and-same}
use Rattle.psi_follow_packed.proofs.BitsLemmas.{AreUnits, IsLone, two-most, units-digits, digits-none, units-some, units-lone, units-two, unit-and}

-- ---- one field

-- the guard of a number that is raised is up from the bound on
raised-guard : (bits bound v : ℕ) → bound < 2 ^ (bits - 1) → v < 2 ^ (bits - 1) + bound → bit_and ((v + (2 ^ (bits - 1) - bound)) / 2 ^ (bits - 1)) 1 ≡ 1 - (bound - v)
raised-guard bits bound v bounded small = elim (cases_lt v bound) [
  | inl under ↦ (let none : (v + (2 ^ (bits - 1) - bound)) / 2 ^ (bits - 1) ≡ 0 = div-eq_of_lt (omega arith) in
      ap (λ g. bit_and g 1) none ∙ unit-and 0 1 (omega arith) (omega arith) ∙ omega arith)
  | inr over ↦ (let low : 1 * 2 ^ (bits - 1) ≤ v + (2 ^ (bits - 1) - bound) = omega arith in
      let high : v + (2 ^ (bits - 1) - bound) < (1 + 1) * 2 ^ (bits - 1) = omega arith in
      ap (λ g. bit_and g 1) (div-eq_of_lt-le (2 ^ (bits - 1)) low high) ∙ and-same 1 ∙ omega arith)
]

-- no bit of zero
none-of : (g n : ℕ) → n ≡ 0 → bit_and g n ≡ 0
none-of g n none = ap (bit_and g) none ∙ and_zero_r g

-- a queue that gains a customer has its guard up where it is full
pub up-field : (bits : ℕ) (side : Side) (bound cap up down v : ℕ) → v ≤ cap → bound < 2 ^ (bits - 1) → IsUnitAt side bound cap up down
    → bit_and ((v + (2 ^ (bits - 1) - bound)) / 2 ^ (bits - 1)) up ≡ up - (cap - v)
up-field bits Any bound cap up down v small bounded unit = none-of ((v + (2 ^ (bits - 1) - bound)) / 2 ^ (bits - 1)) up unit.0 ∙ omega (arith, unit.0)
up-field bits AtLeast bound cap up down v small bounded unit = none-of ((v + (2 ^ (bits - 1) - bound)) / 2 ^ (bits - 1)) up unit.1 ∙ omega (arith, unit.1)
up-field bits Below bound cap up down v small bounded unit =
    ap (bit_and ((v + (2 ^ (bits - 1) - bound)) / 2 ^ (bits - 1))) unit.1 ∙ raised-guard bits bound v bounded (omega (arith, unit.0, pow_pos (bits - 1))) ∙ omega (arith, unit.0, unit.1)

-- and one that loses a customer where it has one
pub down-field : (bits : ℕ) (side : Side) (bound cap up down v : ℕ) → v < 2 ^ (bits - 1) → bound < 2 ^ (bits - 1) → IsUnitAt side bound cap up down
    → bit_and ((v + (2 ^ (bits - 1) - bound)) / 2 ^ (bits - 1)) down ≡ min down v
down-field bits Any bound cap up down v small bounded unit = none-of ((v + (2 ^ (bits - 1) - bound)) / 2 ^ (bits - 1)) down unit.1 ∙ omega (arith, unit.1)
down-field bits Below bound cap up down v small bounded unit = none-of ((v + (2 ^ (bits - 1) - bound)) / 2 ^ (bits - 1)) down unit.2 ∙ omega (arith, unit.2)
down-field bits AtLeast bound cap up down v small bounded unit =
    ap (bit_and ((v + (2 ^ (bits - 1) - bound)) / 2 ^ (bits - 1))) unit.2 ∙ raised-guard bits bound v bounded (omega arith) ∙ omega (arith, unit.0, unit.2)

-- ---- all fields

-- the words have these numbers in their fields
pub record AreFields (count : ℕ) (p : Packing) (f : ℕ → ℕ) (words : List ℕ) : Type 0 where
  pub each : (w : ℕ) → w < count → slice_index words w ≡ digits p.bits p.fields (λ j. f (w * p.fields + j))

-- each number is zero or one, and those after the last queue are zero
pub record AreUnitFields (caps : List ℕ) (t : ℕ → ℕ) : Type 0 where
  pub small : (q : ℕ) → t q ≤ 1
  pub past : (q : ℕ) → length caps ≤ q → t q ≡ 0

pub units-at : (caps : List ℕ) (t : ℕ → ℕ) (fields w : ℕ) → AreUnitFields caps t → AreUnits fields (λ j. t (w * fields + j))
units-at caps t fields w units = record { each = λ j small. units.small (w * fields + j) }

module _ (count : ℕ) (p : Packing) (is : IsPacking count p) where
  some : 1 ≤ p.bits
  some = omega (arith, is.least)

  pub fields-lt : (f : ℕ → ℕ) (w : ℕ) → ((q : ℕ) → f q < 2 ^ p.bits) → digits p.bits p.fields (λ j. f (w * p.fields + j)) < 2 ^ 64
  fields-lt f w fit = digits-word count p (λ j. f (w * p.fields + j)) is (record { each = λ j small. fit (w * p.fields + j) })

  -- the place of a queue's field
  pub field-place : (q : ℕ) → q < length p.caps → (w : ℕ) × (w < count) × ((j : ℕ) × (j < p.fields) × (w * p.fields + j ≡ q))
  field-place q small =
      let fields = p.fields in
      let parts : q / fields * fields + q % fields ≡ q = div-add-mod' q fields in
      let rest : q % fields < fields = mod-lt q is.some in
      elim (cases_lt (q / fields) count) [
        | inl within ↦ (q / fields, within, (q % fields, rest, parts))
        | inr past ↦ absurd (let more : count * fields ≤ q / fields * fields = mul-le-mul_right fields past in omega (arith, more, parts, is.enough, small))
      ]

  -- where words of units are all zero each number is
  pub fields-none : (t : ℕ → ℕ) (words : List ℕ) → AreUnitFields p.caps t → AreFields count p t words → HasNone count words → (q : ℕ) → q < length p.caps → t q ≡ 0
  fields-none t words units fields none q small =
      let place = field-place q small in
      let w = place.0 in
      let j = place.2.0 in
      let zero_is : digits p.bits p.fields (λ i. t (w * p.fields + i)) ≡ 0 = sym (fields.each w place.1) ∙ none w place.1 in
      ap t (sym place.2.2) ∙ digits-none p.bits p.fields (λ i. t (w * p.fields + i)) j (units-digits p.bits p.fields (λ i. t (w * p.fields + i)) some (units-at p.caps t p.fields w units)) zero_is place.2.1

  pub units-inside : (t : ℕ → ℕ) (q : ℕ) → AreUnitFields p.caps t → t q ≡ 1 → q < length p.caps
  units-inside t q units one = elim (cases_lt q (length p.caps)) [
    | inl small ↦ small
    | inr past ↦ absurd (let none = units.past q past in omega (arith, none, one))
  ]

  -- ---- the masks of what leaves alone

  -- which numbers a mask chooses: a queue's where no other one leaves, and else not
  pub record AreChosen (t : ℕ → ℕ) (mask : List ℕ) : Type 0 where
    pub on : ℕ → ℕ
    pub small : (q : ℕ) → on q ≤ 1
    pub masked : (g : ℕ → ℕ) (words : List ℕ) → AreUnitFields p.caps g → AreFields count p g words → (w : ℕ) → w < count
        → bit_and (slice_index words w) (slice_index mask w) ≡ digits p.bits p.fields (λ j. min (g (w * p.fields + j)) (on (w * p.fields + j)))
    pub alone : (q : ℕ) → q < length p.caps → on q ≡ 1 → (i : ℕ) → i < length p.caps → (i ≡ q → ⊥) → t i ≡ 0
    pub other : (q : ℕ) → q < length p.caps → on q ≡ 0 → (i : ℕ) × (i < length p.caps) × ((i ≡ q → ⊥) × (t i ≡ 1))

  module _ (t : ℕ → ℕ) (words mask : List ℕ) (units : AreUnitFields p.caps t) (fields : AreFields count p t words) where
    chosen-all : HasNone count words → AreEach count mask (2 ^ 64 - 1) → AreChosen t mask
    chosen-all none each = record {
      on = λ q. 1;
      small = λ q. omega arith;
      masked = λ g held own own_fields w within.
          ap₂ bit_and (own_fields.each w within) (each w within)
          ∙ and_mask (digits p.bits p.fields (λ j. g (w * p.fields + j))) 64
          ∙ mod-eq_of_lt (fields-lt g w (λ q. let one = own.small q in let two = two-most p.bits some in omega (arith, one, two)))
          ∙ digits-same p.bits p.fields (λ j. g (w * p.fields + j)) (λ j. min (g (w * p.fields + j)) 1) (λ j small. omega (arith, own.small (w * p.fields + j)));
      alone = λ q small one i inside other. fields-none t words units fields none i inside;
      other = λ q small zero_is. absurd (omega (arith, zero_is));
    }

    lone-at : (one : HasOne count words) → IsLone p.fields (λ j. t (one.word * p.fields + j))
    lone-at one =
        let is_word = fields.each one.word one.place in
        units-lone p.bits p.fields (λ j. t (one.word * p.fields + j)) some (units-at p.caps t p.fields one.word units)
        (λ none. one.single.some (is_word ∙ none))
        (ap (λ v. bit_and v (v - 1)) (sym is_word) ∙ one.single.one)

    -- the only one that leaves
    module _ (one : HasOne count words) where
      abbrev last : ℕ
      last = one.word * p.fields + (lone-at one).place

      others-none : (i : ℕ) → i < length p.caps → (i ≡ last → ⊥) → t i ≡ 0
      others-none i inside other =
          let place = field-place i inside in
          let w = place.0 in
          let j = place.2.0 in
          elim (cases_eq w one.word) [
            | inl same ↦ (let here : one.word * p.fields + j ≡ i = ap (λ v. v * p.fields + j) (sym same) ∙ place.2.2 in
                ap t (sym here) ∙ (lone-at one).others j place.2.1 (λ e. other (sym here ∙ ap (λ k. one.word * p.fields + k) e)))
            | inr apart ↦ (let zero_is : digits p.bits p.fields (λ k. t (w * p.fields + k)) ≡ 0 = sym (fields.each w place.1) ∙ one.others w place.1 apart in
                ap t (sym place.2.2) ∙ digits-none p.bits p.fields (λ k. t (w * p.fields + k)) j (units-digits p.bits p.fields (λ k. t (w * p.fields + k)) some (units-at p.caps t p.fields w units)) zero_is place.2.1)
          ]

      chosen-one : mask ≡ words → AreChosen t mask
      chosen-one same = record {
        on = t;
        small = units.small;
        masked = λ g held own own_fields w within.
            ap₂ bit_and (own_fields.each w within) (ap (λ (l : List ℕ). slice_index l w) same ∙ fields.each w within)
            ∙ digits-and p.bits p.fields (λ j. g (w * p.fields + j)) (λ j. t (w * p.fields + j))
            (units-digits p.bits p.fields (λ j. g (w * p.fields + j)) some (units-at p.caps g p.fields w own)) (units-digits p.bits p.fields (λ j. t (w * p.fields + j)) some (units-at p.caps t p.fields w units))
            ∙ digits-same p.bits p.fields (λ j. bit_and (g (w * p.fields + j)) (t (w * p.fields + j))) (λ j. min (g (w * p.fields + j)) (t (w * p.fields + j)))
            (λ j small. unit-and (g (w * p.fields + j)) (t (w * p.fields + j)) (own.small (w * p.fields + j)) (units.small (w * p.fields + j)));
        alone = λ q small is_one i inside other.
            others-none i inside (λ e. elim (cases_eq q last) [ inl d ↦ other (e ∙ sym d) | inr apart ↦ (let none = others-none q small apart in absurd (omega (arith, none, is_one))) ]);
        other = λ q small none. (
          last,
          units-inside t last units (lone-at one).one,
          (λ e. let is_one : t last ≡ 1 = (lone-at one).one in let same_value : t last ≡ t q = ap t e in omega (arith, is_one, same_value, none), (lone-at one).one),
        );
      }

    -- two places that leave
    record AreBoth : Type 0 where
      first : ℕ
      second : ℕ
      apart : first ≡ second → ⊥
      one : t first ≡ 1
      other : t second ≡ 1

    both-in : HasTwoIn count words → AreBoth
    both-in two =
        let is_word = fields.each two.word two.place in
        let found = units-two p.bits p.fields (λ j. t (two.word * p.fields + j)) some (units-at p.caps t p.fields two.word units)
        (λ single. two.two (ap (λ v. bit_and v (v - 1)) is_word ∙ single)) in
        record {
          first = two.word * p.fields + found.first;
          second = two.word * p.fields + found.second;
          apart = λ e. (let less = found.order in omega (arith, e, less));
          one = found.one;
          other = found.other;
        }

    some-at : (w : ℕ) → w < count → (slice_index words w ≡ 0 → ⊥) → (j : ℕ) × (j < p.fields) × (t (w * p.fields + j) ≡ 1)
    some-at w within any =
        units-some p.bits p.fields (λ j. t (w * p.fields + j)) (units-at p.caps t p.fields w units) (λ none. any (fields.each w within ∙ none))

    both-of : HasTwoOf count words → AreBoth
    both-of two =
        let a = some-at two.first (let less = two.place in let most = two.last in omega (arith, less, most)) two.some in
        let b = some-at two.second two.last two.other in
        record {
          first = two.first * p.fields + a.0;
          second = two.second * p.fields + b.0;
          apart = λ e. (let same = (same_from_place two.first a.0 two.second b.0 p.fields a.1 b.1 e).0 in let less = two.place in omega (arith, same, less));
          one = a.2;
          other = b.2;
        }

    both-some : HasSeveral count words → AreBoth
    both-some (inl two) = both-in two
    both-some (inr two) = both-of two

    chosen-none : AreBoth → AreEach count mask 0 → AreChosen t mask
    chosen-none both each = record {
      on = λ q. 0;
      small = λ q. omega arith;
      masked = λ g held own own_fields w within.
          ap (bit_and (slice_index held w)) (each w within) ∙ and_zero_r (slice_index held w)
          ∙ sym (digits-zero p.bits p.fields (λ j. min (g (w * p.fields + j)) 0) (λ j. omega arith));
      alone = λ q small one. absurd (omega (arith, one));
      other = λ q small none. elim (cases_eq both.first q) [
        | inl e ↦ (both.second, units-inside t both.second units both.other, (λ d. both.apart (e ∙ sym d), both.other))
        | inr ne ↦ (both.first, units-inside t both.first units both.one, (ne, both.one))
      ];
    }

    pub chosen-is : ChoosesAlone count words mask → AreChosen t mask
    chosen-is (inl none) = chosen-all none.0 none.1
    chosen-is (inr (inl one)) = chosen-one one.0 one.1
    chosen-is (inr (inr several)) = chosen-none (both-some several.0) several.1

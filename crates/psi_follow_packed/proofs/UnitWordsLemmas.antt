-- The words of the corners of the tight box around what an event of single customers makes of a box.
use Rattle.std.specs.Prelude.{◌≡◌, ℕ, ◌+◌, ◌-◌, ◌*◌, ◌/◌, ◌%◌, ◌^◌, ◌<◌, ◌≤◌, min, ◌⊎◌, ◌↔◌, Bool, true, false, IsTrue, List, length, map, replicate, slice_index, slice_index_or, bit_and, refl}
use Rattle.std.proofs.Common.{inl, inr, ap, ap₂, sym, subst, ◌∙◌, arith, pow_pos}
use Rattle.std.proofs.Math.Nat.{mod-eq_of_lt}
use Rattle.std.proofs.lemmas.Bool.{cases_lt, cases_eq, true≢false}
use Rattle.std.proofs.lemmas.List.{get_or_past, get_or-replicate, length-replicate}
use Rattle.std.proofs.lemmas.Grind.{same_number_lists}
use Rattle.std.specs.Int.Bits.{and_zero_r}
use Rattle.psi_state.specs.State.{IsBelow, box}
use Rattle.psi_state.specs.Boxes.{IsBetween}
use Rattle.psi_state.specs.Sets.{image}
use Rattle.psi_state.specs.Hull.{corners, IsTight}
use Rattle.psi_state.proofs.BoxesLemmas.{below-through, below-itself, In-box}
use Rattle.psi_state.proofs.SetsLemmas.{In-image}
use Rattle.psi_event.specs.Law.{Function}
use Rattle.psi_event.proofs.ChoiceLemmas.{choose_each, all_or_some}
use Rattle.psi_event.proofs.LawLemmas.{tight-corners, tight-within}
use Rattle.psi_event.specs.declared.sides.Side.TheVariants.{Any}
use Rattle.psi_event.specs.declared.piecewise.Piecewise.{Piecewise}
use Rattle.psi_guard.specs.Envelope.{CanMoveAll, MissesSome, OtherLeaves, IsLow, IsHigh}
use Rattle.psi_guard.proofs.HullsLemmas.{AreEnds, ends-tight}
use Rattle.psi_follow_packed.specs.Packed.{Packing, packed}
use Rattle.psi_follow_packed.specs.Moves.{guard}
use Rattle.psi_follow_packed.specs.Boxes.{AreCorners}
use Rattle.psi_follow_packed.specs.UnitEvents.{UnitMasks, IsUnitFor}
use Rattle.psi_follow_packed.specs.Inner.BitsKept.{ChoosesAlone}
use Rattle.psi_follow_packed.specs.Inner.FillingKept.{AreSums}
use Rattle.psi_follow_packed.proofs.DigitsLemmas.{digits, digits-same, digits-zero, digits-add}
use Rattle.psi_follow_packed.proofs.WordsLemmas.{fields_of, packed-at, length-packed, below-guard, twice-guard}
use Rattle.psi_follow_packed.proofs.TestingLemmas.{mapped-at}
use Rattle.psi_follow_packed.proofs.BitsLemmas.{two-most, digits-guards, digits-one}
use Rattle.psi_follow_packed.proofs.HoldingLemmas.{raised-at}
use Rattle.psi_follow_packed.proofs.UnitRulesLemmas.{unit_rule, unit-rule_of, queue-at, low-missed, high-missed, low-alone, high-alone, low-kept, high-kept}
use Rattle.psi_follow_packed.proofs.UnitFieldsLemmas.{up-field, down-field, AreFields, AreUnitFields, fields-lt, fields-none, field-place, AreChosen, chosen-is}

-- the words that are raised by the offsets and shifted: a one where the guard of a queue with a one in `units` is up
abbrev pub AreUps : ℕ → UnitMasks → List ℕ → List ℕ → List ℕ → Type 0
AreUps count m x units words = (w : ℕ) → w < count
    → slice_index words w ≡ bit_and ((slice_index x w + slice_index m.offsets w) % 2 ^ 64 / 2 ^ m.shift) (slice_index units w)

-- words less words, modulo 2^64
abbrev pub AreLess : ℕ → List ℕ → List ℕ → List ℕ → Type 0
AreLess count x y words = (w : ℕ) → w < count → slice_index words w ≡ (slice_index x w + (2 ^ 64 - slice_index y w)) % 2 ^ 64

abbrev pub AreBoth : ℕ → List ℕ → List ℕ → List ℕ → Type 0
AreBoth count x y words = (w : ℕ) → w < count → slice_index words w ≡ bit_and (slice_index x w) (slice_index y w)

module _ (count : ℕ) (p : Packing) (f : Function) (m : UnitMasks) (unit : IsUnitFor count p f m) where
  caps : List ℕ
  caps = p.caps

  abbrev pieces : Piecewise
  pieces = unit.pieces

  abbrev u : ℕ → ℕ
  u q = slice_index unit.pieces.first.ups q

  abbrev d : ℕ → ℕ
  d q = slice_index unit.pieces.first.downs q

  abbrev c : ℕ → ℕ
  c q = slice_index p.caps q

  abbrev off : ℕ → ℕ
  off q = slice_index (map (λ v. guard p.bits - v) unit.pieces.bounds) q

  -- a one where a queue that gains is full, and where one that loses has a customer
  abbrev full : List ℕ → ℕ → ℕ
  full x q = u q - (c q - slice_index x q)

  abbrev busy : List ℕ → ℕ → ℕ
  busy x q = min (d q) (slice_index x q)

  some : 1 ≤ p.bits
  some = omega (arith, unit.packing.least)

  past-up : (q : ℕ) → length p.caps ≤ q → u q ≡ 0
  past-up q past = get_or_past unit.pieces.first.ups q 0 (omega (arith, unit.does.valid.first.ups.same_length))

  past-down : (q : ℕ) → length p.caps ≤ q → d q ≡ 0
  past-down q past = get_or_past unit.pieces.first.downs q 0 (omega (arith, unit.does.valid.first.downs.same_length))

  one-most : (q : ℕ) → u q + d q ≤ 1
  one-most q = elim (cases_lt q (length p.caps)) [
    | inl small ↦ (queue-at p.caps unit.pieces f unit.does unit.unit q small).one
    | inr past ↦ omega (arith, past-up q past, past-down q past)
  ]

  up-units : AreUnitFields p.caps u
  up-units = record { small = λ q. omega (arith, one-most q); past = past-up }

  down-units : AreUnitFields p.caps d
  down-units = record { small = λ q. omega (arith, one-most q); past = past-down }

  ups-fields : AreFields count p u m.ups
  ups-fields = record { each = λ w small. ap (λ (l : List ℕ). slice_index l w) unit.ups ∙ packed-at count p unit.pieces.first.ups w small }

  downs-fields : AreFields count p d m.downs
  downs-fields = record { each = λ w small. ap (λ (l : List ℕ). slice_index l w) unit.downs ∙ packed-at count p unit.pieces.first.downs w small }

  -- ---- what is full, and what has a customer

  module _ (x : List ℕ) (below : IsBelow x p.caps) where
    raised-lt : (q : ℕ) → slice_index x q + off q < 2 ^ p.bits
    raised-lt = raised-at count p unit.pieces.bounds x unit.packing below

    raised-word : (words : List ℕ) → words ≡ packed count p x → (w : ℕ) → w < count
        → (slice_index words w + slice_index m.offsets w) % 2 ^ 64 ≡ digits p.bits p.fields (λ j. slice_index x (w * p.fields + j) + off (w * p.fields + j))
    raised-word words same w small =
        ap₂ (λ a b. (a + b) % 2 ^ 64)
        (ap (λ (l : List ℕ). slice_index l w) same ∙ packed-at count p x w small)
        (ap (λ (l : List ℕ). slice_index l w) unit.offsets ∙ packed-at count p (map (λ v. guard p.bits - v) unit.pieces.bounds) w small)
        ∙ ap (λ n. n % 2 ^ 64) (sym (digits-add p.bits p.fields (fields_of p.fields x w) (λ j. off (w * p.fields + j))))
        ∙ mod-eq_of_lt (fields-lt count p unit.packing (λ q. slice_index x q + off q) w raised-lt)

    ups-word : (words units up : List ℕ) (t v : ℕ → ℕ) → words ≡ packed count p x → AreUnitFields p.caps t → AreFields count p t units → AreUps count m words units up
        → ((q : ℕ) → bit_and ((slice_index x q + off q) / 2 ^ (p.bits - 1)) (t q) ≡ v q) → AreFields count p v up
    ups-word words units up t v same ones fields ups field = record {
      each = λ w small.
          ups w small
          ∙ ap₂ (λ a b. bit_and (a / 2 ^ m.shift) b) (raised-word words same w small) (fields.each w small)
          ∙ ap (λ s. bit_and (digits p.bits p.fields (λ j. slice_index x (w * p.fields + j) + off (w * p.fields + j)) / 2 ^ s) (digits p.bits p.fields (λ j. t (w * p.fields + j)))) unit.shift
          ∙ digits-guards p.bits p.fields (λ j. slice_index x (w * p.fields + j) + off (w * p.fields + j)) (λ j. t (w * p.fields + j)) some
          (record { each = λ j inside. raised-lt (w * p.fields + j) }) (record { each = λ j inside. ones.small (w * p.fields + j) })
          ∙ digits-same p.bits p.fields (λ j. bit_and ((slice_index x (w * p.fields + j) + off (w * p.fields + j)) / 2 ^ (p.bits - 1)) (t (w * p.fields + j))) (λ j. v (w * p.fields + j))
          (λ j inside. field (w * p.fields + j));
    }

    off-at : (q : ℕ) → q < length p.caps → off q ≡ 2 ^ (p.bits - 1) - slice_index unit.pieces.bounds q
    off-at q small = mapped-at (λ v. guard p.bits - v) unit.pieces.bounds q (omega (arith, small, unit.does.valid.bounds.same_length))

    full-field : (q : ℕ) → bit_and ((slice_index x q + off q) / 2 ^ (p.bits - 1)) (u q) ≡ full x q
    full-field q = elim (cases_lt q (length p.caps)) [
      | inl small ↦ ap (λ o. bit_and ((slice_index x q + o) / 2 ^ (p.bits - 1)) (u q)) (off-at q small)
          ∙ up-field p.bits (slice_index_or unit.pieces.first.sides q Any) (slice_index unit.pieces.bounds q) (c q) (u q) (d q) (slice_index x q)
          (below.each q (omega (arith, small, below.same_length))) (below-guard count p unit.pieces.bounds unit.packing unit.does.valid.bounds q) (unit.unit.first q small)
      | inr past ↦ ap (bit_and ((slice_index x q + off q) / 2 ^ (p.bits - 1))) (past-up q past) ∙ and_zero_r ((slice_index x q + off q) / 2 ^ (p.bits - 1)) ∙ omega (arith, past-up q past)
    ]

    busy-field : (q : ℕ) → bit_and ((slice_index x q + off q) / 2 ^ (p.bits - 1)) (d q) ≡ busy x q
    busy-field q = elim (cases_lt q (length p.caps)) [
      | inl small ↦ ap (λ o. bit_and ((slice_index x q + o) / 2 ^ (p.bits - 1)) (d q)) (off-at q small)
          ∙ down-field p.bits (slice_index_or unit.pieces.first.sides q Any) (slice_index unit.pieces.bounds q) (c q) (u q) (d q) (slice_index x q)
          (below-guard count p x unit.packing below q) (below-guard count p unit.pieces.bounds unit.packing unit.does.valid.bounds q) (unit.unit.first q small)
      | inr past ↦ ap (bit_and ((slice_index x q + off q) / 2 ^ (p.bits - 1))) (past-down q past) ∙ and_zero_r ((slice_index x q + off q) / 2 ^ (p.bits - 1)) ∙ omega (arith, past-down q past)
    ]

    full-fields : (words up : List ℕ) → words ≡ packed count p x → AreUps count m words m.ups up → AreFields count p (full x) up
    full-fields words up same ups = ups-word words m.ups up u (full x) same up-units ups-fields ups full-field

    busy-fields : (words up : List ℕ) → words ≡ packed count p x → AreUps count m words m.downs up → AreFields count p (busy x) up
    busy-fields words up same ups = ups-word words m.downs up d (busy x) same down-units downs-fields ups busy-field

    full-units : AreUnitFields p.caps (full x)
    full-units = record { small = λ q. omega (arith, one-most q); past = λ q past. omega (arith, past-up q past) }

  -- ---- whether the event can happen

  module _ (lo hi low high full_words busy_words : List ℕ) (corners : AreCorners count p low high lo hi) (long : length full_words ≡ count) (longer : length busy_words ≡ count)
      (ups : AreUps count m low m.ups full_words) (downs : AreUps count m high m.downs busy_words) where
    lower : IsBelow lo p.caps
    lower = below-through lo hi p.caps corners.ordered corners.within

    step-at : (q : ℕ) → q < length p.caps → (slice_index lo q ≤ slice_index hi q) × (slice_index hi q ≤ c q)
    step-at q small =
        (corners.ordered.each q (omega (arith, small, lower.same_length)), corners.within.each q (omega (arith, small, corners.within.same_length)))

    can-or_misses : CanMoveAll (unit_rule p.caps unit.pieces) lo hi ⊎ MissesSome (unit_rule p.caps unit.pieces) lo hi
    can-or_misses =
        let found = all_or_some (λ q. (slice_index lo q ≤ c q - u q) × (d q ≤ slice_index hi q)) (λ q. (slice_index hi q < d q) ⊎ (c q - u q < slice_index lo q)) (length p.caps) can-at in
        elim found [
          | inl all ↦ inl (record { low = λ q small. (all q small).0; high = λ q small. (all q small).1 })
          | inr one ↦ inr (record { queue = one.0; place = one.1; out = one.2 })
        ]
      where
        can-at : (q : ℕ) → q < length p.caps
            → ((slice_index lo q ≤ c q - u q) × (d q ≤ slice_index hi q)) ⊎ ((slice_index hi q < d q) ⊎ (c q - u q < slice_index lo q))
        can-at q small = elim (cases_lt (slice_index hi q) (d q)) [
          | inl empty ↦ inr (inl empty)
          | inr any ↦ elim (cases_lt (c q - u q) (slice_index lo q)) [
            | inl filled ↦ inr (inr filled)
            | inr room ↦ inl (room, any)
          ]
        ]

    -- the test by which the code tells
    abbrev Passes : Type 0
    Passes = (full_words ≡ replicate count 0) × (busy_words ≡ m.downs)

    long-downs : length m.downs ≡ count
    long-downs = ap (λ (l : List ℕ). length l) unit.downs ∙ length-packed count p unit.pieces.first.downs

    can-passes : CanMoveAll (unit_rule p.caps unit.pieces) lo hi → Passes
    can-passes can = (
      same_number_lists full_words (replicate count 0) (long ∙ sym (length-replicate {A = ℕ} count 0))
          (λ w small. (let within : w < count = omega (arith, small, long) in
          (full-fields lo lower low full_words corners.low ups).each w within
          ∙ digits-zero p.bits p.fields (λ j. full lo (w * p.fields + j)) (λ j. none (w * p.fields + j))
          ∙ sym (get_or-replicate count w 0 0 within))),
      same_number_lists busy_words m.downs (longer ∙ sym long-downs)
          (λ w small. (let within : w < count = omega (arith, small, longer) in
          (busy-fields hi corners.within high busy_words corners.high downs).each w within
          ∙ digits-same p.bits p.fields (λ j. busy hi (w * p.fields + j)) (λ j. d (w * p.fields + j)) (λ j inside. all (w * p.fields + j))
          ∙ sym (downs-fields.each w within))),
    )
      where
        none : (q : ℕ) → full lo q ≡ 0
        none q = elim (cases_lt q (length p.caps)) [
          | inl small ↦ (let room = can.low q small in let step = step-at q small in let fits = (queue-at p.caps unit.pieces f unit.does unit.unit q small).room in omega (arith, room, step.0, step.1, fits))
          | inr past ↦ omega (arith, past-up q past)
        ]

        all : (q : ℕ) → busy hi q ≡ d q
        all q = elim (cases_lt q (length p.caps)) [
          | inl small ↦ (let any = can.high q small in omega (arith, any))
          | inr past ↦ omega (arith, past-down q past)
        ]

    misses-not : MissesSome (unit_rule p.caps unit.pieces) lo hi → Passes → ⊥
    misses-not missed passes = elim missed.out [
      | inl empty ↦
          (let q = missed.queue in
          let place = field-place count p unit.packing q missed.place in
          let w = place.0 in
          let j = place.2.0 in
          let same : digits p.bits p.fields (λ i. busy hi (w * p.fields + i)) ≡ digits p.bits p.fields (λ i. d (w * p.fields + i)) =
          sym ((busy-fields hi corners.within high busy_words corners.high downs).each w place.1) ∙ ap (λ (l : List ℕ). slice_index l w) passes.1 ∙ downs-fields.each w place.1 in
          let one : busy hi (w * p.fields + j) ≡ d (w * p.fields + j) =
          digits-one p.bits p.fields (λ i. busy hi (w * p.fields + i)) (λ i. d (w * p.fields + i)) j
          (record { each = λ i inside. omega (arith, one-most (w * p.fields + i), two-most p.bits some) }) (record { each = λ i inside. omega (arith, one-most (w * p.fields + i), two-most p.bits some) }) same place.2.1 in
          let here : busy hi q ≡ d q = subst (λ i. busy hi i ≡ d i) place.2.2 one in
          omega (arith, here, empty))
      | inr filled ↦
          (let q = missed.queue in
          let step = step-at q missed.place in
          let nothing : full lo q ≡ 0 = fields-none count p unit.packing (full lo) full_words (full-units lo lower) (full-fields lo lower low full_words corners.low ups)
          (λ w within. ap (λ (l : List ℕ). slice_index l w) passes.0 ∙ get_or-replicate count w 0 0 within) q missed.place in
          omega (arith, nothing, filled, step.0, step.1))
    ]

  -- so the test of the words of the corners tells which of the two it is
  module _ (lo hi low high low_words high_words full_words busy_words : List ℕ) (corners : AreCorners count p low high lo hi) (low_is : low_words ≡ low) (high_is : high_words ≡ high)
      (long : length full_words ≡ count) (longer : length busy_words ≡ count) (ups : AreUps count m low_words m.ups full_words) (downs : AreUps count m high_words m.downs busy_words)
      (b : Bool) (tells : IsTrue b ↔ ((full_words ≡ replicate count 0) × (busy_words ≡ m.downs) → ⊥)) where
    low-ups : AreUps count m low m.ups full_words
    low-ups = subst (λ (l : List ℕ). AreUps count m l m.ups full_words) low_is ups

    high-downs : AreUps count m high m.downs busy_words
    high-downs = subst (λ (l : List ℕ). AreUps count m l m.downs busy_words) high_is downs

    found : CanMoveAll (unit_rule p.caps unit.pieces) lo hi ⊎ MissesSome (unit_rule p.caps unit.pieces) lo hi
    found = can-or_misses lo hi low high full_words busy_words corners long longer low-ups high-downs

    pub told-misses : b ≡ true → MissesSome (unit_rule p.caps unit.pieces) lo hi
    told-misses is = elim found [
      | inl can ↦ absurd (tells.0 is (can-passes lo hi low high full_words busy_words corners long longer low-ups high-downs can))
      | inr missed ↦ missed
    ]

    pub told-can : b ≡ false → CanMoveAll (unit_rule p.caps unit.pieces) lo hi
    told-can is = elim found [
      | inl can ↦ can
      | inr missed ↦ absurd (true≢false (sym (tells.1 (misses-not lo hi low high full_words busy_words corners long longer low-ups high-downs missed)) ∙ is))
    ]

  -- ---- the corners of the tight box

  module _ (lo hi low high : List ℕ) (begun : AreCorners count p low high lo hi) where
    below_lo : IsBelow lo p.caps
    below_lo = below-through lo hi p.caps begun.ordered begun.within

    -- corners whose ends are those of the queues are those of the tight box
    enclosed : (x y low_after high_after : List ℕ) → length x ≡ length p.caps → length y ≡ length p.caps
        → ((q : ℕ) → q < length p.caps → AreEnds (unit_rule p.caps unit.pieces) lo hi q (slice_index x q) (slice_index y q))
        → low_after ≡ packed count p x → high_after ≡ packed count p y
        → AreCorners count p low_after high_after (corners (image f (box lo hi))).lo (corners (image f (box lo hi))).hi
    enclosed x y low_after high_after long longer ends is_low is_high =
        let tight : IsTight (image f (box lo hi)) x y =
        ends-tight (unit_rule p.caps unit.pieces) p.caps f lo hi x y (unit-rule_of p.caps unit.pieces f unit.does unit.unit)
        (record { ordered = begun.ordered; within = begun.within; long = below_lo.same_length; longer = begun.within.same_length }) long longer ends in
        let is = tight-corners f lo hi x y begun.ordered tight in
        let first : IsBetween x y (f lo) = tight.inside (f lo) (In-image f lo (box lo hi) (In-box lo hi lo (below-itself lo) begun.ordered)) in
        subst (λ b. AreCorners count p low_after high_after b.lo b.hi) (sym is) (record {
          ordered = below-through x (f lo) y first.low first.high;
          within = tight-within p.caps f lo hi x y unit.closed begun.ordered begun.within tight;
          low = is_low;
          high = is_high;
        })

    pub stays : MissesSome (unit_rule p.caps unit.pieces) lo hi → AreCorners count p low high (corners (image f (box lo hi))).lo (corners (image f (box lo hi))).hi
    stays missed =
        enclosed lo hi low high below_lo.same_length begun.within.same_length
        (λ q small. record {
          low = low-missed p.caps unit.pieces f unit.does unit.unit lo hi begun.ordered begun.within missed q small;
          high = high-missed p.caps unit.pieces f unit.does unit.unit lo hi begun.ordered begun.within missed q small;
        })
        begun.low begun.high

    -- ---- where the event can happen

    -- sums of numbers, words less words, and their sums, field by field
    sum-word : (x y z : ℕ → ℕ) (w : ℕ) → ((q : ℕ) → z q ≡ x q + y q)
        → digits p.bits p.fields (λ j. z (w * p.fields + j)) ≡ digits p.bits p.fields (λ j. x (w * p.fields + j)) + digits p.bits p.fields (λ j. y (w * p.fields + j))
    sum-word x y z w same =
        digits-same p.bits p.fields (λ j. z (w * p.fields + j)) (λ j. x (w * p.fields + j) + y (w * p.fields + j)) (λ j inside. same (w * p.fields + j))
        ∙ digits-add p.bits p.fields (λ j. x (w * p.fields + j)) (λ j. y (w * p.fields + j))

    less-fields : (x y z : ℕ → ℕ) (xs ys words : List ℕ) → AreFields count p x xs → AreFields count p y ys → ((q : ℕ) → x q < 2 ^ p.bits) → ((q : ℕ) → z q + y q ≡ x q)
        → AreLess count xs ys words → AreFields count p z words
    less-fields x y z xs ys words first second fit same less = record {
      each = λ w small. omega (
        arith,
        less w small,
        first.each w small,
        second.each w small,
        sum-word z y x w (λ q. sym (same q)),
        fields-lt count p unit.packing x w fit,
      );
    }

    sum-fields : (x y z : ℕ → ℕ) (xs ys words : List ℕ) → AreFields count p x xs → AreFields count p y ys → ((q : ℕ) → z q < 2 ^ p.bits) → ((q : ℕ) → z q ≡ x q + y q)
        → AreSums count xs ys words → AreFields count p z words
    sum-fields x y z xs ys words first second fit same sums = record {
      each = λ w small. omega (
        arith,
        sums.each w small,
        first.each w small,
        second.each w small,
        sum-word x y z w same,
        fields-lt count p unit.packing z w fit,
      );
    }

    -- numbers of queues as a state, whose words are those with these fields
    pub record IsStateOf (z : ℕ → ℕ) (words : List ℕ) : Type 0 where
      pub state : List ℕ
      pub long : length state ≡ length p.caps
      pub each : (q : ℕ) → q < length p.caps → slice_index state q ≡ z q
      pub packs : words ≡ packed count p state

    state-of : (z : ℕ → ℕ) (words : List ℕ) → length words ≡ count → AreFields count p z words → ((q : ℕ) → length p.caps ≤ q → z q ≡ 0) → IsStateOf z words
    state-of z words size fields past =
        let found = choose_each (λ q v. v ≡ z q) (length p.caps) (λ q small. (z q, refl)) in
        record {
          state = found.0;
          long = found.1;
          each = found.2;
          packs = same_number_lists words (packed count p found.0) (size ∙ sym (length-packed count p found.0))
              (λ w small. (let within : w < count = omega (arith, small, size) in
              fields.each w within
              ∙ digits-same p.bits p.fields (λ j. z (w * p.fields + j)) (fields_of p.fields found.0 w)
              (λ j inside. alike z found.0 found.1 found.2 past (w * p.fields + j))
              ∙ sym (packed-at count p found.0 w within)));
        }
      where
        alike : (z : ℕ → ℕ) (x : List ℕ) → length x ≡ length p.caps → ((q : ℕ) → q < length p.caps → slice_index x q ≡ z q) → ((q : ℕ) → length p.caps ≤ q → z q ≡ 0)
            → (q : ℕ) → z q ≡ slice_index x q
        alike z x long each past q = elim (cases_lt q (length p.caps)) [
          | inl small ↦ sym (each q small)
          | inr behind ↦ past q behind ∙ sym (get_or_past x q 0 (omega (arith, long, behind)))
        ]

    state-lt : (x : List ℕ) → IsBelow x p.caps → (q v : ℕ) → v ≤ 1 → slice_index x q + v < 2 ^ p.bits
    state-lt x below q v one = omega (arith, one, below-guard count p x unit.packing below q, twice-guard p.bits some, pow_pos (p.bits - 1))

    module _ (can : CanMoveAll (unit_rule p.caps unit.pieces) lo hi) (full_high busy_low less leaving mask held kept gained grown low_after risen high_after : List ℕ)
        (ups : AreUps count m high m.ups full_high) (downs : AreUps count m low m.downs busy_low) (differs : AreLess count m.downs busy_low less) (leaves : AreSums count full_high less leaving)
        (chosen : ChoosesAlone count leaving mask) (holds : AreBoth count m.downs mask held) (keeps : AreSums count full_high held kept) (gains : AreBoth count m.ups mask gained)
        (grows : AreSums count low gained grown) (long : length low_after ≡ count) (falls : AreLess count grown busy_low low_after)
        (rises : AreSums count high m.ups risen) (longer : length high_after ≡ count) (stops : AreLess count risen kept high_after) where
      -- one where a queue leaves what lets the event happen
      abbrev t : ℕ → ℕ
      t q = full hi q + (d q - busy lo q)

      units : AreUnitFields p.caps t
      units = record { small = λ q. omega (arith, one-most q); past = λ q past. omega (arith, past-up q past, past-down q past) }

      bit-lt : (v : ℕ) → v ≤ 1 → v < 2 ^ p.bits
      bit-lt v one = omega (arith, one, two-most p.bits some)

      full-is : AreFields count p (full hi) full_high
      full-is = full-fields hi begun.within high full_high begun.high ups

      busy-is : AreFields count p (busy lo) busy_low
      busy-is = busy-fields lo below_lo low busy_low begun.low downs

      leaving-is : AreFields count p t leaving
      leaving-is =
          sum-fields (full hi) (λ q. d q - busy lo q) t full_high less leaving full-is
          (less-fields d (busy lo) (λ q. d q - busy lo q) m.downs busy_low less downs-fields busy-is (λ q. bit-lt (d q) (down-units.small q)) (λ q. omega arith) differs)
          (λ q. bit-lt (t q) (units.small q)) (λ q. refl) leaves

      choice : AreChosen count p unit.packing t mask
      choice = chosen-is count p unit.packing t leaving mask units leaving-is chosen

      abbrev on : ℕ → ℕ
      on = choice.on

      held-is : AreFields count p (λ q. min (d q) (on q)) held
      held-is = record { each = λ w small. holds w small ∙ choice.masked d m.downs down-units downs-fields w small }

      gained-is : AreFields count p (λ q. min (u q) (on q)) gained
      gained-is = record { each = λ w small. gains w small ∙ choice.masked u m.ups up-units ups-fields w small }

      kept-is : AreFields count p (λ q. full hi q + min (d q) (on q)) kept
      kept-is = sum-fields (full hi) (λ q. min (d q) (on q)) (λ q. full hi q + min (d q) (on q)) full_high held kept full-is held-is
          (λ q. bit-lt (full hi q + min (d q) (on q)) (omega (arith, one-most q))) (λ q. refl) keeps

      low-fields : AreFields count p (slice_index lo) low
      low-fields = record { each = λ w small. ap (λ (l : List ℕ). slice_index l w) begun.low ∙ packed-at count p lo w small }

      high-fields : AreFields count p (slice_index hi) high
      high-fields = record { each = λ w small. ap (λ (l : List ℕ). slice_index l w) begun.high ∙ packed-at count p hi w small }

      grown-is : AreFields count p (λ q. slice_index lo q + min (u q) (on q)) grown
      grown-is = sum-fields (slice_index lo) (λ q. min (u q) (on q)) (λ q. slice_index lo q + min (u q) (on q)) low gained grown low-fields gained-is
          (λ q. state-lt lo below_lo q (min (u q) (on q)) (omega (arith, one-most q))) (λ q. refl) grows

      risen-is : AreFields count p (λ q. slice_index hi q + u q) risen
      risen-is = sum-fields (slice_index hi) u (λ q. slice_index hi q + u q) high m.ups risen high-fields ups-fields
          (λ q. state-lt hi begun.within q (u q) (up-units.small q)) (λ q. refl) rises

      abbrev lower_end : ℕ → ℕ
      lower_end q = slice_index lo q + min (u q) (on q) - busy lo q

      abbrev upper_end : ℕ → ℕ
      upper_end q = slice_index hi q + u q - (full hi q + min (d q) (on q))

      room-at : (q : ℕ) → full hi q + min (d q) (on q) ≤ slice_index hi q + u q
      room-at q = elim (cases_lt q (length p.caps)) [
        | inl small ↦ (let any = can.high q small in omega (arith, any))
        | inr past ↦ omega (arith, past-down q past)
      ]

      low-is : AreFields count p lower_end low_after
      low-is = less-fields (λ q. slice_index lo q + min (u q) (on q)) (busy lo) lower_end grown busy_low low_after grown-is busy-is
          (λ q. state-lt lo below_lo q (min (u q) (on q)) (omega (arith, one-most q))) (λ q. omega arith) falls

      high-is : AreFields count p upper_end high_after
      high-is = less-fields (λ q. slice_index hi q + u q) (λ q. full hi q + min (d q) (on q)) upper_end risen kept high_after risen-is kept-is
          (λ q. state-lt hi begun.within q (u q) (up-units.small q)) (λ q. omega (arith, room-at q)) stops

      low-past : (q : ℕ) → length p.caps ≤ q → lower_end q ≡ 0
      low-past q past = (let none : slice_index lo q ≡ 0 = get_or_past lo q 0 (omega (arith, below_lo.same_length, past)) in omega (arith, none, past-up q past))

      high-past : (q : ℕ) → length p.caps ≤ q → upper_end q ≡ 0
      high-past q past = (let none : slice_index hi q ≡ 0 = get_or_past hi q 0 (omega (arith, begun.within.same_length, past)) in omega (arith, none, past-up q past))

      low-state : IsStateOf lower_end low_after
      low-state = state-of lower_end low_after long low-is low-past

      high-state : IsStateOf upper_end high_after
      high-state = state-of upper_end high_after longer high-is high-past

      ends-at : (q : ℕ) → q < length p.caps → AreEnds (unit_rule p.caps unit.pieces) lo hi q (lower_end q) (upper_end q)
      ends-at q small = elim (cases_eq (on q) 1) [
        | inl one ↦
            (let none : OtherLeaves (unit_rule p.caps unit.pieces) lo hi q → ⊥ =
            (λ leaver. (let nothing = choice.alone q small one leaver.queue leaver.place leaver.other in
            elim leaver.out [ inl out ↦ absurd (omega (arith, nothing, out)) | inr out ↦ absurd (omega (arith, nothing, out, begun.within.each leaver.queue (omega (arith, leaver.place, begun.within.same_length)), (queue-at p.caps unit.pieces f unit.does unit.unit leaver.queue leaver.place).room)) ])) in
            record {
              low = subst (λ v. IsLow (unit_rule p.caps unit.pieces) lo hi q v) (omega (arith, one, one-most q))
                  (low-alone p.caps unit.pieces f unit.does unit.unit lo hi begun.ordered begun.within can q small none);
              high = subst (λ v. IsHigh (unit_rule p.caps unit.pieces) lo hi q v) (omega (arith, one, one-most q))
                  (high-alone p.caps unit.pieces f unit.does unit.unit lo hi begun.ordered begun.within can q small none);
            })
        | inr not ↦
            (let zero_is : on q ≡ 0 = omega (arith, not, choice.small q) in
            let found = choice.other q small zero_is in
            let leaver : OtherLeaves (unit_rule p.caps unit.pieces) lo hi q = record {
              queue = found.0;
              place = found.1;
              other = found.2.0;
              out = leaves-at found.0 found.1 found.2.1;
            } in
            record {
              low = subst (λ v. IsLow (unit_rule p.caps unit.pieces) lo hi q v) (omega (arith, zero_is))
                  (low-kept p.caps unit.pieces f unit.does unit.unit lo hi begun.ordered begun.within can q small leaver);
              high = subst (λ v. IsHigh (unit_rule p.caps unit.pieces) lo hi q v) (omega (arith, zero_is))
                  (high-kept p.caps unit.pieces f unit.does unit.unit lo hi begun.ordered begun.within can q small leaver);
            })
      ]
        where
          leaves-at : (i : ℕ) → i < length p.caps → t i ≡ 1 → (slice_index lo i < d i) ⊎ (c i - u i < slice_index hi i)
          leaves-at i inside one = elim (cases_lt (slice_index lo i) (d i)) [
            | inl empty ↦ inl empty
            | inr any ↦ inr (omega (arith, one, any, (queue-at p.caps unit.pieces f unit.does unit.unit i inside).room))
          ]

      pub passes : AreCorners count p low_after high_after (corners (image f (box lo hi))).lo (corners (image f (box lo hi))).hi
      passes =
          enclosed low-state.state high-state.state low_after high_after low-state.long high-state.long
          (λ q small. subst (λ v. AreEnds (unit_rule p.caps unit.pieces) lo hi q v (slice_index high-state.state q)) (sym (low-state.each q small))
          (subst (λ v. AreEnds (unit_rule p.caps unit.pieces) lo hi q (lower_end q) v) (sym (high-state.each q small)) (ends-at q small)))
          low-state.packs high-state.packs

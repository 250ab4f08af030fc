-- The tight box around what an event of single customers makes of a box.
use Rattle.std.specs.Prelude.{◌≡◌, ℕ, zero, suc, ◌+◌, ◌-◌, ◌<◌, ◌≤◌, min, Bool, true, false, ◌⊎◌, List, length, slice_index, slice_index_or, refl}
use Rattle.std.proofs.Common.{inl, inr, sym, ◌∙◌, subst, arith}
use Rattle.std.proofs.lemmas.Bool.{cases_Bool, cases_eq, and_parts, and_cases, leb-true, leb-false, ltb-true, ltb-false, true≢false}
use Rattle.psi_state.specs.State.{IsBelow}
use Rattle.psi_event.specs.declared.sides.Side.{Side}
use Rattle.psi_event.specs.declared.sides.Side.TheVariants.{Any, AtLeast, Below}
use Rattle.psi_event.specs.declared.piecewise.Piecewise.{Piecewise}
use Rattle.psi_event.specs.Piecewise.{is_on, if_on, all_on, first_on, second_on, Does}
use Rattle.psi_guard.specs.Rule.{Rule, IsRule, Makes}
use Rattle.psi_guard.specs.Envelope.{CanMoveAll, MissesSome, OtherLeaves, IsLow, IsHigh}
use Rattle.psi_guard.proofs.OrderLemmas.{IsRuleOf}
use Rattle.psi_follow_packed.specs.UnitEvents.{IsUnitAt, IsUnit}
use Rattle.psi_follow_packed.proofs.DigitsLemmas.{all_below}
use Rattle.psi_follow_packed.proofs.TestingLemmas.{test_at, all_on-is}

-- ---- tests at all places

all_below-each : (n : ℕ) (t : ℕ → Bool) → all_below n t ≡ true → (j : ℕ) → j < n → t j ≡ true
all_below-each zero t all j small = absurd (omega arith)
all_below-each (suc n) t all zero small = (and_parts (t 0) (all_below n (λ i. t (suc i))) all).0
all_below-each (suc n) t all (suc j) small = all_below-each n (λ i. t (suc i)) (and_parts (t 0) (all_below n (λ i. t (suc i))) all).1 j (omega arith)

all_below-some : (n : ℕ) (t : ℕ → Bool) → all_below n t ≡ false → (j : ℕ) × (j < n) × (t j ≡ false)
all_below-some zero t none = absurd (true≢false none)
all_below-some (suc n) t none =
    elim (and_cases (t 0) (all_below n (λ i. t (suc i))) none) [
      | inl here ↦ (0, omega arith, here)
      | inr there ↦ (let found = all_below-some n (λ i. t (suc i)) there in let small : found.0 < n = found.1 in (suc found.0, omega arith, found.2))
    ]

-- ---- one queue

-- a queue gains a customer, or loses one, or neither; it has room for one
pub record IsUnitQueue (cap up down : ℕ) : Type 0 where
  pub one : up + down ≤ 1
  pub room : up + down ≤ cap

unit-queue : (side : Side) (bound cap up down : ℕ) → up ≤ cap → down ≤ cap → IsUnitAt side bound cap up down → IsUnitQueue cap up down
unit-queue Any bound cap up down room some unit = record { one = omega (arith, unit.0, unit.1); room = omega (arith, unit.0, unit.1) }
unit-queue AtLeast bound cap up down room some unit = record { one = omega (arith, unit.1, unit.2); room = omega (arith, unit.1, unit.2) }
unit-queue Below bound cap up down room some unit = record { one = omega (arith, unit.1, unit.2); room = omega (arith, unit.1, unit.2) }

-- a number is on the queue's side where the queue has the customer, or the room
on-within : (side : Side) (bound cap up down v : ℕ) → v ≤ cap → IsUnitAt side bound cap up down → is_on side bound v ≡ true → (down ≤ v) × (v ≤ cap - up)
on-within Any bound cap up down v small unit on = (omega (arith, unit.0, unit.1), omega (arith, unit.0, unit.1))
on-within AtLeast bound cap up down v small unit on = let is = leb-true bound v on in (omega (arith, unit.0, unit.2, is), omega (arith, unit.1))
on-within Below bound cap up down v small unit on = let is = ltb-true v bound on in (omega (arith, unit.2), omega (arith, unit.0, unit.1, is))

off-outside : (side : Side) (bound cap up down v : ℕ) → v ≤ cap → up ≤ cap → IsUnitAt side bound cap up down → is_on side bound v ≡ false → (v < down) ⊎ (cap - up < v)
off-outside Any bound cap up down v small room unit off = absurd (true≢false off)
off-outside AtLeast bound cap up down v small room unit off = let is = leb-false bound v off in inl (omega (arith, unit.0, unit.2, is))
off-outside Below bound cap up down v small room unit off = let is = ltb-false v bound off in inr (omega (arith, unit.0, unit.1, is, room))

if_on-zero : (on : Bool) (n : ℕ) → n ≡ 0 → if_on on n ≡ 0
if_on-zero true n none = none
if_on-zero false n none = refl

-- ---- the event by its queues

abbrev pub unit_rule : List ℕ → Piecewise → Rule
unit_rule caps p = record {
  queues = length caps;
  cap = λ q. slice_index caps q;
  least = λ q. slice_index p.first.downs q;
  most = λ q. slice_index caps q - slice_index p.first.ups q;
  moves = λ q v. min (slice_index caps q) (v + slice_index p.first.ups q - slice_index p.first.downs q);
}

module _ (caps : List ℕ) (p : Piecewise) (f : List ℕ → List ℕ) (does : Does caps p f) (unit : IsUnit caps p) where
  pub queue-at : (q : ℕ) → q < length caps → IsUnitQueue (slice_index caps q) (slice_index p.first.ups q) (slice_index p.first.downs q)
  queue-at q small =
      unit-queue (slice_index_or p.first.sides q Any) (slice_index p.bounds q) (slice_index caps q) (slice_index p.first.ups q) (slice_index p.first.downs q)
      (does.valid.first.ups.each q (omega (arith, does.valid.first.ups.same_length))) (does.valid.first.downs.each q (omega (arith, does.valid.first.downs.same_length)))
      (unit.first q small)

  lawful : IsRule (unit_rule caps p)
  lawful = record {
    guard = λ q place. (let is = queue-at q place in omega (arith, is.one, is.room));
    most = λ q place. omega arith;
    rises = λ q v d place. omega arith;
    slow = λ q v d place. omega arith;
    top = λ q v place. omega arith;
  }

  module _ (x : List ℕ) (below : IsBelow x caps) where
    on-is : all_on p.first.sides p.bounds x ≡ all_below (length x) (test_at p.first.sides p.bounds x)
    on-is = all_on-is (length x) p.first.sides p.bounds x (omega (arith, does.valid.first.sides, below.same_length)) (omega (arith, does.valid.bounds.same_length, below.same_length)) (omega arith)

    sum-at : (b : Bool) (q : ℕ) → first_on p x ≡ b → q < length caps
        → slice_index (f x) q + if_on b (slice_index p.first.downs q) ≡ slice_index x q + if_on b (slice_index p.first.ups q)
    sum-at b q is small =
        let sum = (does.each x below).each q (omega (arith, below.same_length)) in
        let none = unit.second q small in
        let first = if_on-zero (second_on p x) (slice_index p.second.downs q) none.1 in
        let second = if_on-zero (second_on p x) (slice_index p.second.ups q) none.0 in
        subst (λ c. slice_index (f x) q + if_on c (slice_index p.first.downs q) ≡ slice_index x q + if_on c (slice_index p.first.ups q)) is (omega (arith, sum, first, second))

    within-at : first_on p x ≡ true → (q : ℕ) → q < length caps → (slice_index p.first.downs q ≤ slice_index x q) × (slice_index x q ≤ slice_index caps q - slice_index p.first.ups q)
    within-at on q small =
        let here : q < length x = omega (arith, below.same_length) in
        on-within (slice_index_or p.first.sides q Any) (slice_index p.bounds q) (slice_index caps q) (slice_index p.first.ups q) (slice_index p.first.downs q) (slice_index x q)
        (below.each q here) (unit.first q small) (all_below-each (length x) (test_at p.first.sides p.bounds x) (sym on-is ∙ on) q here)

    makes-rule : Makes (unit_rule caps p) x (f x)
    makes-rule = record {
      long = (does.each x below).long ∙ below.same_length;
      turn = elim (cases_Bool (first_on p x)) [
        | inl on ↦ inl (
          record {
            low = λ q place. (within-at on q place).0;
            high = λ q place. (within-at on q place).1;
          },
          λ q place. (let sum = sum-at true q on place in let inside = within-at on q place in omega (arith, sum, inside.0, inside.1, (queue-at q place).one)),
        )
        | inr off ↦ inr (
          (let found = all_below-some (length x) (test_at p.first.sides p.bounds x) (sym on-is ∙ off) in
              let small : found.0 < length caps = (let less = found.1 in omega (arith, less, below.same_length)) in
              record {
                queue = found.0;
                place = small;
                out = off-outside (slice_index_or p.first.sides found.0 Any) (slice_index p.bounds found.0) (slice_index caps found.0) (slice_index p.first.ups found.0) (slice_index p.first.downs found.0)
                    (slice_index x found.0) (below.each found.0 found.1) (let room = (queue-at found.0 small).room in omega (arith, room)) (unit.first found.0 small) found.2;
              }),
          λ q place. (let sum = sum-at false q off place in omega (arith, sum)),
        )
      ];
    }

  pub unit-rule_of : IsRuleOf (unit_rule caps p) caps f
  unit-rule_of = record { lawful = lawful; queues = refl; cap = λ q. refl; makes = makes-rule }

  -- ---- the ends of a queue

  module _ (lo hi : List ℕ) (ordered : IsBelow lo hi) (within : IsBelow hi caps) where
    abbrev l : ℕ → ℕ
    l q = slice_index lo q

    abbrev h : ℕ → ℕ
    h q = slice_index hi q

    abbrev u : ℕ → ℕ
    u q = slice_index p.first.ups q

    abbrev d : ℕ → ℕ
    d q = slice_index p.first.downs q

    abbrev c : ℕ → ℕ
    c q = slice_index caps q

    step-at : (q : ℕ) → q < length caps → (l q ≤ h q) × (h q ≤ c q)
    step-at q small = (ordered.each q (omega (arith, ordered.same_length, within.same_length)), within.each q (omega (arith, within.same_length)))

    -- where the event can't happen each queue keeps its ends
    module _ (missed : MissesSome (unit_rule caps p) lo hi) (q : ℕ) (small : q < length caps) where
      keeps : (v : ℕ) → l q ≤ v → v ≤ h q → OtherLeaves (unit_rule caps p) lo hi q ⊎ ((v < d q) ⊎ (c q - u q < v))
      keeps v low high = elim (cases_eq missed.queue q) [
        | inl e ↦ inr (subst (λ i. (v < d i) ⊎ (c i - u i < v)) e
            (let low' : l missed.queue ≤ v = subst (λ i. l i ≤ v) (sym e) low in
            let high' : v ≤ h missed.queue = subst (λ i. v ≤ h i) (sym e) high in
            elim missed.out [ inl out ↦ inl (omega (arith, out, high')) | inr out ↦ inr (omega (arith, out, low')) ]))
        | inr ne ↦ inl (record {
          queue = missed.queue;
          place = missed.place;
          other = ne;
          out = (let step = step-at missed.queue missed.place in elim missed.out [ inl out ↦ inl (omega (arith, out, step.0)) | inr out ↦ inr (omega (arith, out, step.0)) ]);
        })
      ]

      cannot : CanMoveAll (unit_rule caps p) lo hi → ⊥
      cannot can =
          let low = can.low missed.queue missed.place in
          let high = can.high missed.queue missed.place in
          elim missed.out [ inl out ↦ absurd (omega (arith, out, high)) | inr out ↦ absurd (omega (arith, out, low)) ]

      pub low-missed : IsLow (unit_rule caps p) lo hi q (l q)
      low-missed = record {
        moved = λ can. absurd (cannot can);
        kept = λ v low high keep. low;
        reached = inr (keeps (l q) (omega arith) (step-at q small).0, (omega arith, (step-at q small).0));
      }

      pub high-missed : IsHigh (unit_rule caps p) lo hi q (h q)
      high-missed = record {
        moved = λ can. absurd (cannot can);
        kept = λ v low high keep. high;
        reached = inr (keeps (h q) (step-at q small).0 (omega arith), ((step-at q small).0, omega arith));
      }

    -- a queue where the event happens with some number of each
    record IsOpen (q : ℕ) : Type 0 where
      pub one : u q + d q ≤ 1
      pub room : u q + d q ≤ c q
      pub order : l q ≤ h q
      pub top : h q ≤ c q
      pub low : l q ≤ c q - u q
      pub high : d q ≤ h q

    module _ (can : CanMoveAll (unit_rule caps p) lo hi) (q : ℕ) (small : q < length caps) where
      open-at : IsOpen q
      open-at = record {
        one = (queue-at q small).one;
        room = (queue-at q small).room;
        order = (step-at q small).0;
        top = (step-at q small).1;
        low = can.low q small;
        high = can.high q small;
      }

      -- where no other queue stops it
      module _ (alone : OtherLeaves (unit_rule caps p) lo hi q → ⊥) where
        pub low-alone : IsLow (unit_rule caps p) lo hi q (l q + u q - min (d q) (l q))
        low-alone = (let is = open-at in grind (arith, alone, can))

        pub high-alone : IsHigh (unit_rule caps p) lo hi q (h q + u q - (u q - (c q - h q) + d q))
        high-alone = (let is = open-at in grind (arith, alone, can))

      -- where another one may
      module _ (other : OtherLeaves (unit_rule caps p) lo hi q) where
        pub low-kept : IsLow (unit_rule caps p) lo hi q (l q - min (d q) (l q))
        low-kept = (let is = open-at in grind (arith, other, can))

        pub high-kept : IsHigh (unit_rule caps p) lo hi q (h q + u q - (u q - (c q - h q)))
        high-kept = (let is = open-at in grind (arith, other, can))

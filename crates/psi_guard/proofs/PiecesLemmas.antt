-- Lemmas. What the pieces of a guarded event add and take is what it does.
use Rattle.std.specs.Prelude.{◌≡◌, ◌≢◌, ℕ, zero, suc, ◌+◌, ◌<◌, ◌≤◌, min, max, ℤ, ◌⊎◌, List, ◌∷◌, length, slice_index, slice_index_or, Bool, true, false, nat_le, nat_lt, if◌then◌else◌, []}
use Rattle.std.proofs.Common.{inl, inr, ap, sym, ◌∙◌, arith, rules}
use Rattle.std.proofs.lemmas.Bool.Decides.{nat_tests}
use Rattle.std.proofs.lemmas.Bool.{both_ways, true_from_ne_false, false_from_ne_true, cases_lt, cases_eq, cases_Bool, lt-ltb, le-ltb, le-leb, lt-leb, eq-eqb, ne_eqb, and_parts, and_cases}
use borrow.Author.Differences.{up as ups, down as downs}
use Rattle.psi_state.specs.State.{AreCapacities, IsBelow}
use Rattle.psi_event.specs.declared.sides.Side.{Side}
use Rattle.psi_event.specs.declared.sides.Side.TheVariants.{Any, AtLeast, Below}
use Rattle.psi_event.specs.declared.piecewise.Piecewise.{Piecewise}
use Rattle.psi_event.specs.Piecewise.{is_on, all_on, if_on, first_on, second_on, IsSum, IsPiecewise, Does}
use Rattle.psi_event.proofs.TestingLemmas.{sum-by}
use Rattle.psi_guard.specs.declared.parts.Part.{Part}
use Rattle.psi_guard.specs.declared.pieces.PiecesAt.{PiecesAt}
use Rattle.psi_guard.specs.Guarding.{shifted, moved, guarded, part_of}
use Rattle.psi_guard.specs.Refusals.{AreGuards}
use Rattle.psi_guard.specs.Rule.{rule, FitsGuard, AllowsAll, RefusesSome}
use Rattle.psi_guard.specs.Inner.RuleLaws.{fits_guard, makes}
use Rattle.psi_guard.specs.Pieces.{is_exact, is_clipped, guard_side, guard_bound, clip_side, clip_bound, exact_at, clipped_at, SaysOf, exact, AreTold, Tell}

-- ---- a piece applies where each number is on its side

pub all_on-each : (sides : List Side) (bounds x : List ℕ) (q : ℕ) → length bounds ≡ length sides → length x ≡ length sides → all_on sides bounds x ≡ true → q < length x
    → is_on (slice_index_or sides q Any) (slice_index bounds q) (slice_index x q) ≡ true
all_on-each (s ∷ sides) (b ∷ bounds) (v ∷ x) zero long_bounds long_x on small = (and_parts (is_on s b v) (all_on sides bounds x) on).0
all_on-each (s ∷ sides) (b ∷ bounds) (v ∷ x) (suc q) long_bounds long_x on small =
    all_on-each sides bounds x q (omega arith) (omega arith) (and_parts (is_on s b v) (all_on sides bounds x) on).1 (omega arith)
all_on-each sides bounds x q long_bounds long_x on small = absurd (omega arith)

pub all_on-some : (sides : List Side) (bounds x : List ℕ) → length bounds ≡ length sides → length x ≡ length sides → all_on sides bounds x ≡ false
    → (q : ℕ) × (q < length x) × (is_on (slice_index_or sides q Any) (slice_index bounds q) (slice_index x q) ≡ false)
all_on-some [] bounds x long_bounds long_x off = absurd cc
all_on-some (s ∷ sides) [] x long_bounds long_x off = absurd (omega arith)
all_on-some (s ∷ sides) (b ∷ bounds) [] long_bounds long_x off = absurd (omega arith)
all_on-some (s ∷ sides) (b ∷ bounds) (v ∷ x) long_bounds long_x off =
    elim (and_cases (is_on s b v) (all_on sides bounds x) off) [
      | inl here ↦ (0, omega arith, here)
      | inr there ↦ (let found = all_on-some sides bounds x (omega arith) (omega arith) there in
          let small : found.0 < length x = found.1 in (suc found.0, omega arith, found.2))
    ]

pub all_on-true : (sides : List Side) (bounds x : List ℕ) → length bounds ≡ length sides → length x ≡ length sides
    → ((q : ℕ) → q < length x → is_on (slice_index_or sides q Any) (slice_index bounds q) (slice_index x q) ≡ true) → all_on sides bounds x ≡ true
all_on-true sides bounds x long_bounds long_x each = search (rules, true_from_ne_false, all_on-some, both_ways)

pub all_on-out : (sides : List Side) (bounds x : List ℕ) (q : ℕ) → length bounds ≡ length sides → length x ≡ length sides → q < length x
    → is_on (slice_index_or sides q Any) (slice_index bounds q) (slice_index x q) ≡ false → all_on sides bounds x ≡ false
all_on-out sides bounds x q long_bounds long_x small off = search (rules, false_from_ne_true, both_ways, all_on-each)

if-zero : (b : Bool) (v : ℕ) → v ≡ 0 → if_on b v ≡ 0
if-zero b v none = search rules

-- ---- what a part makes of a number

shift-exact : (shift : ℤ) (floor ceiling least most v : ℕ) → floor + downs shift ≤ least + ups shift → most + ups shift ≤ ceiling + downs shift → least ≤ v → v ≤ most
    → min ceiling (max floor (shifted shift v)) + downs shift ≡ v + ups shift
shift-exact shift floor ceiling least most v low high least_v v_most = search rules

shift-one : (shift : ℤ) (floor ceiling cap v : ℕ) → ups shift + downs shift ≡ 1 → floor ≤ ups shift → cap ≤ ceiling + downs shift → ceiling ≤ cap → v ≤ cap
    → ((ups shift ≡ 0) × (v < 1) × (min ceiling (max floor (shifted shift v)) ≡ v))
    ⊎ (((ups shift ≡ 0) × (1 ≤ v) × (min ceiling (max floor (shifted shift v)) + downs shift ≡ v + ups shift))
    ⊎ (((ups shift ≢ 0) × (v < cap) × (min ceiling (max floor (shifted shift v)) + downs shift ≡ v + ups shift))
    ⊎ ((ups shift ≢ 0) × (cap ≤ v) × (min ceiling (max floor (shifted shift v)) ≡ v))))
shift-one shift floor ceiling cap v one low high top small = search (rules, cases_lt)

shift-small : (shift : ℤ) (floor ceiling least most cap : ℕ) → floor + downs shift ≤ least + ups shift → most + ups shift ≤ ceiling + downs shift → least ≤ most → most ≤ cap → ceiling ≤ cap
    → (ups shift ≤ cap) × (downs shift ≤ cap)
shift-small shift floor ceiling least most cap low high guard top over = search rules

-- a part of a queue of this capacity
module _ (cap : ℕ) (part : Part) where
  record ExactFacts : Type 0 where
    pub sided : (part.least ≡ 0) ⊎ (cap ≤ part.most)
    pub low : part.floor + downs part.shift ≤ part.least + ups part.shift
    pub high : part.most + ups part.shift ≤ part.ceiling + downs part.shift

  record ClippedFacts : Type 0 where
    pub least : part.least ≡ 0
    pub most : cap ≤ part.most
    pub one : ups part.shift + downs part.shift ≡ 1
    pub low : part.floor ≤ ups part.shift
    pub high : cap ≤ part.ceiling + downs part.shift

  exact-facts : is_exact cap part ≡ true → ExactFacts
  exact-facts is = record { sided = grind (arith, nat_tests); low = grind (arith, nat_tests); high = grind (arith, nat_tests) }

  clipped-facts : is_clipped cap part ≡ true → ClippedFacts
  clipped-facts is = search (rules, nat_tests)

  moved-exact : ExactFacts → (v : ℕ) → part.least ≤ v → v ≤ part.most → moved part v + downs part.shift ≡ v + ups part.shift
  moved-exact facts v low high = shift-exact part.shift part.floor part.ceiling part.least part.most v facts.low facts.high low high

  -- the side of a guard and its bound are of one of three kinds
  guard-by : (P : Side → ℕ → Type 0) → (0 < part.least → P AtLeast part.least) → (part.least ≤ 0 → part.most < cap → P Below (part.most + 1)) → (part.least ≤ 0 → cap ≤ part.most → P Any 0)
      → P (guard_side cap part) (guard_bound cap part)
  guard-by P from to free = search (rules, cases_lt, lt-ltb, le-ltb)

  guard-small : FitsGuard cap part → guard_bound cap part ≤ cap
  guard-small fits = search (rules, guard-by)

  guard-allows : (v : ℕ) → part.least ≤ v → v ≤ part.most → is_on (guard_side cap part) (guard_bound cap part) v ≡ true
  guard-allows v low high = search (rules, guard-by, le-leb, lt-ltb)

  guard-refuses : ExactFacts → (v : ℕ) → v ≤ cap → (v < part.least) ⊎ (part.most < v) → is_on (guard_side cap part) (guard_bound cap part) v ≡ false
  guard-refuses facts v small out = search (rules, guard-by, lt-leb, le-ltb)

  -- that of a clipped part, one of two
  clip-fall : ups part.shift ≡ 0 → (v : ℕ) → is_on (clip_side cap part) (clip_bound cap part) v ≡ nat_le 1 v
  clip-fall none v = ap (λ b. is_on (if b then AtLeast else Below) (if b then 1 else cap) v) (eq-eqb (ups part.shift) 0 none)

  clip-rise : ups part.shift ≢ 0 → (v : ℕ) → is_on (clip_side cap part) (clip_bound cap part) v ≡ nat_lt v cap
  clip-rise some v = ap (λ b. is_on (if b then AtLeast else Below) (if b then 1 else cap) v) (ne_eqb (ups part.shift) 0 some)

  clip-small : 1 ≤ cap → clip_bound cap part ≤ cap
  clip-small some = search (rules, cases_eq, eq-eqb, ne_eqb)

  -- on its side the number changes, and on the other one it doesn't
  clip-turns : ClippedFacts → FitsGuard cap part → (v : ℕ) → v ≤ cap
      → ((is_on (clip_side cap part) (clip_bound cap part) v ≡ true) × (moved part v + downs part.shift ≡ v + ups part.shift))
      ⊎ ((is_on (clip_side cap part) (clip_bound cap part) v ≡ false) × (moved part v ≡ v))
  clip-turns facts fits v small = search (rules, shift-one, clip-fall, lt-leb, le-leb, clip-rise, lt-ltb, le-ltb)

-- ---- the pieces by their queues

-- what pieces say of a queue
record SayAt (p : Piecewise) (q : ℕ) (own : PiecesAt) : Type 0 where
  pub bound : slice_index p.bounds q ≡ own.bound
  pub first : SaysOf p.first q own.first
  pub second : SaysOf p.second q own.second

-- the part of a queue is exact, or it is clipped, and the pieces say so
record ExactTurn (caps : List ℕ) (parts : List Part) (p : Piecewise) (q : ℕ) : Type 0 where
  pub is : exact caps parts q ≡ true
  pub facts : ExactFacts (slice_index caps q) (part_of caps parts q)
  pub say : SayAt p q (exact_at (slice_index caps q) (part_of caps parts q))

record ClippedTurn (caps : List ℕ) (parts : List Part) (p : Piecewise) (q : ℕ) : Type 0 where
  pub is : exact caps parts q ≡ false
  pub facts : ClippedFacts (slice_index caps q) (part_of caps parts q)
  pub say : SayAt p q (clipped_at (slice_index caps q) (part_of caps parts q))

module _ (caps : List ℕ) (parts : List Part) (guards : AreGuards caps parts) (told : AreTold caps parts (length caps)) (p : Piecewise) (tell : Tell caps parts (length caps) p) where
  abbrev cap_at : ℕ → ℕ
  cap_at q = slice_index caps q

  abbrev part_at : ℕ → Part
  part_at q = part_of caps parts q

  turn-of : (q : ℕ) → q < length caps → ExactTurn caps parts p q ⊎ ClippedTurn caps parts p q
  turn-of q small = search (rules, cases_Bool, exact-facts, clipped-facts)

  -- a state
  module _ (x : List ℕ) (below : IsBelow x caps) where
    abbrev first_is_on : ℕ → Bool
    first_is_on q = is_on (slice_index_or p.first.sides q Any) (slice_index p.bounds q) (slice_index x q)

    abbrev second_is_on : ℕ → Bool
    second_is_on q = is_on (slice_index_or p.second.sides q Any) (slice_index p.bounds q) (slice_index x q)

    long_bounds_first : length p.bounds ≡ length p.first.sides
    long_bounds_first = tell.bounds ∙ sym tell.first.sides

    long_first : length x ≡ length p.first.sides
    long_first = below.same_length ∙ sym tell.first.sides

    long_bounds_second : length p.bounds ≡ length p.second.sides
    long_bounds_second = tell.bounds ∙ sym tell.second.sides

    long_second : length x ≡ length p.second.sides
    long_second = below.same_length ∙ sym tell.second.sides

    abbrev y : List ℕ
    y = guarded parts x

    -- where a guard refuses, neither piece applies
    refused-sum : RefusesSome (rule caps parts) x → length y ≡ length caps → ((q : ℕ) → q < length caps → slice_index y q ≡ slice_index x q) → IsSum p x y
    refused-sum some long kept =
        let q = some.queue in
        let there : q < length x = (let same = below.same_length in let place : some.queue < length caps = some.place in omega arith) in
        let small = below.each q there in
        elim (turn-of q some.place) [
          | inl turn ↦ (let off = guard-refuses (cap_at q) (part_at q) turn.facts (slice_index x q) small some.out in
              let first_off : first_is_on q ≡ false = rw (turn.say.first.side, turn.say.bound) off in
              let second_off : second_is_on q ≡ false = rw (turn.say.second.side, turn.say.bound) off in
              sum-by p x y false false
              (all_on-out p.first.sides p.bounds x q long_bounds_first long_first there first_off)
              (all_on-out p.second.sides p.bounds x q long_bounds_second long_second there second_off)
              (long ∙ sym below.same_length)
              (λ r inside. (let own = kept r (let same = below.same_length in omega arith) in omega (arith, own))))
          | inr turn ↦ (let least = turn.facts.least in
              let most = turn.facts.most in
              elim some.out [ inl low ↦ absurd (omega (arith, low, least)) | inr high ↦ absurd (omega (arith, high, most, small)) ])
        ]

    -- where all guards allow
    module _ (allows : AllowsAll (rule caps parts) x) (long : length y ≡ length caps) (move : (q : ℕ) → q < length caps → slice_index y q ≡ moved (part_of caps parts q) (slice_index x q)) where
      allowed-first : first_on p x ≡ true
      allowed-first = all_on-true p.first.sides p.bounds x long_bounds_first long_first (λ q there.
          (let small : q < length caps = (let same = below.same_length in omega arith) in
          elim (turn-of q small) [
            | inl turn ↦ rw (turn.say.first.side, turn.say.bound)
                (guard-allows (cap_at q) (part_at q) (slice_index x q) (allows.low q small) (allows.high q small))
            | inr turn ↦ rw turn.say.first.side
          ]))

      -- an exact part changes its queue in the first piece
      exact-sum : (b : Bool) (q : ℕ) → q < length caps → ExactTurn caps parts p q
          → slice_index y q + slice_index p.first.downs q + if_on b (slice_index p.second.downs q) ≡ slice_index x q + slice_index p.first.ups q + if_on b (slice_index p.second.ups q)
      exact-sum b q small turn = search (rules, moved-exact, if-zero)

      clip-at : (q : ℕ) (on : Bool) → ClippedTurn caps parts p q → is_on (clip_side (cap_at q) (part_at q)) (clip_bound (cap_at q) (part_at q)) (slice_index x q) ≡ on → second_is_on q ≡ on
      clip-at q on turn is = rw (turn.say.second.side, turn.say.bound) is

      -- where a part is clipped, the second piece applies where its queue is on its side
      clipped-only : (q r : ℕ) → q < length caps → r < length caps → ClippedTurn caps parts p q → second_is_on r ≡ false → second_is_on q ≡ true → ⊥
      clipped-only q r small r_small turn r_off q_on = search (rules, turn-of, guard-allows, both_ways)

      -- where the second piece applies, the clipped part changes its queue
      both-sum : second_on p x ≡ true → IsSum p x y
      both-sum on = sum-by p x y true true allowed-first on (long ∙ sym below.same_length) (λ q there.
          (let small : q < length caps = (let same = below.same_length in omega arith) in
          elim (turn-of q small) [
            | inl turn ↦ exact-sum true q small turn
            | inr turn ↦ elim (clip-turns (cap_at q) (part_at q) turn.facts (fits_guard caps parts q guards) (slice_index x q) (below.each q there)) [
              | inl turned ↦ (let made = turned.1 in
                  let at = move q small in
                  let up = turn.say.first.up in
                  let down = turn.say.first.down in
                  let second_up = turn.say.second.up in
                  let second_down = turn.say.second.down in
                  omega (arith, made, at, up, down, second_up, second_down))
              | inr stays ↦ absurd (both_ways (second_is_on q) (clip-at q false turn stays.0)
                  (all_on-each p.second.sides p.bounds x q long_bounds_second long_second on there))
            ]
          ]))

      -- where it doesn't, the clipped part keeps its queue's number
      first-sum : second_on p x ≡ false → IsSum p x y
      first-sum off =
          let found = all_on-some p.second.sides p.bounds x long_bounds_second long_second off in
          let r_there : found.0 < length x = found.1 in
          let r_small : found.0 < length caps = (let same = below.same_length in omega arith) in
          sum-by p x y true false allowed-first off (long ∙ sym below.same_length) (λ q there.
          (let small : q < length caps = (let same = below.same_length in omega arith) in
          elim (turn-of q small) [
            | inl turn ↦ exact-sum false q small turn
            | inr turn ↦ (let up = turn.say.first.up in
                let down = turn.say.first.down in
                let at = move q small in
                elim (clip-turns (cap_at q) (part_at q) turn.facts (fits_guard caps parts q guards) (slice_index x q) (below.each q there)) [
                  | inl turned ↦ absurd (clipped-only q found.0 small r_small turn found.2 (clip-at q true turn turned.0))
                  | inr stays ↦ (let keeps = stays.1 in omega (arith, keeps, at, up, down))
                ])
          ]))

    pieces-sum : IsSum p x (guarded parts x)
    pieces-sum =
        let made = makes caps parts x guards below in
        elim made.turn [
          | inl moves ↦ elim (cases_Bool (second_on p x)) [
            | inl on ↦ both-sum moves.0 made.long moves.1 on
            | inr off ↦ first-sum moves.0 made.long moves.1 off
          ]
          | inr stays ↦ refused-sum stays.0 made.long stays.1
        ]

  -- ---- the pieces are of the network

  module _ (valid : AreCapacities caps) where
    some : (q : ℕ) → q < length caps → 1 ≤ cap_at q
    some q small = valid.least q small

    none-small : (v q : ℕ) → v ≡ 0 → v ≤ cap_at q
    none-small v q none = omega (arith, none)

    exact-small : (q : ℕ) → ExactTurn caps parts p q → (ups (part_at q).shift ≤ cap_at q) × (downs (part_at q).shift ≤ cap_at q)
    exact-small q turn =
        let fits = fits_guard caps parts q guards in
        shift-small (part_at q).shift (part_at q).floor (part_at q).ceiling (part_at q).least (part_at q).most (cap_at q) turn.facts.low turn.facts.high fits.guard fits.most fits.ceiling

    below-by : (xs : List ℕ) → length xs ≡ length caps → ((q : ℕ) → q < length caps → slice_index xs q ≤ cap_at q) → IsBelow xs caps
    below-by xs long each = record { same_length = long; each = λ q there. each q (omega arith) }

    pieces-valid : IsPiecewise caps p
    pieces-valid = record {
      bounds = below-by p.bounds tell.bounds (λ q small. elim (turn-of q small) [
        | inl turn ↦ (let is = turn.say.bound in let fits = guard-small (cap_at q) (part_at q) (fits_guard caps parts q guards) in omega arith)
        | inr turn ↦ (let is = turn.say.bound in let fits = clip-small (cap_at q) (part_at q) (some q small) in omega arith)
      ]);
      first = record {
        sides = tell.first.sides;
        ups = below-by p.first.ups tell.first.ups (λ q small. elim (turn-of q small) [
          | inl turn ↦ (let is = turn.say.first.up in let fits = (exact-small q turn).0 in omega arith)
          | inr turn ↦ none-small (slice_index p.first.ups q) q turn.say.first.up
        ]);
        downs = below-by p.first.downs tell.first.downs (λ q small. elim (turn-of q small) [
          | inl turn ↦ (let is = turn.say.first.down in let fits = (exact-small q turn).1 in omega arith)
          | inr turn ↦ none-small (slice_index p.first.downs q) q turn.say.first.down
        ]);
      };
      second = record {
        sides = tell.second.sides;
        ups = below-by p.second.ups tell.second.ups (λ q small. elim (turn-of q small) [
          | inl turn ↦ none-small (slice_index p.second.ups q) q turn.say.second.up
          | inr turn ↦ (let is = turn.say.second.up in let one = turn.facts.one in let fits = some q small in omega arith)
        ]);
        downs = below-by p.second.downs tell.second.downs (λ q small. elim (turn-of q small) [
          | inl turn ↦ none-small (slice_index p.second.downs q) q turn.say.second.down
          | inr turn ↦ (let is = turn.say.second.down in let one = turn.facts.one in let fits = some q small in omega arith)
        ]);
      };
    }

    pub pieces-does : Does caps p (guarded parts)
    pieces-does = record { valid = pieces-valid; each = λ x below. pieces-sum x below }

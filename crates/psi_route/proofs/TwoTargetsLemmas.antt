-- Lemmas. What the pieces of a route to two targets add and take is what it does.
use Rattle.std.specs.Prelude.{◌≡◌, ◌≢◌, ℕ, ◌≤◌, List, length, slice_index, true, false, ◌&&◌, nat_le, nat_lt}
use Rattle.std.proofs.Common.{inl, inr, ap, sym, ◌∙◌, subst, arith, get_or-set_other}
use Rattle.std.proofs.lemmas.Bool.{cases_lt, cases_Bool, le-leb, lt-leb, and_left, and_right, and_from}
use Rattle.psi_state.specs.State.{IsBelow, zeros}
use Rattle.psi_state.proofs.StatesLemmas.{zeros-caps}
use Rattle.psi_event.specs.declared.sides.Side.{Side}
use Rattle.psi_event.specs.declared.sides.Side.TheVariants.{Any, AtLeast, Below}
use Rattle.psi_event.specs.Piecewise.{is_on, all_on, first_on, second_on, IsSum, Does}
use Rattle.psi_event.proofs.TestingLemmas.{set-on, sum-by}
use Rattle.psi_route.specs.Routing.{Shape, routing, act, routed, HasRoom, Lacks}
use Rattle.psi_route.specs.Acting.{NoRoom}
use Rattle.psi_route.specs.Inner.ActingLaws.{act-idle}
use Rattle.psi_route.specs.Accepted.{IsRouteShape}
use Rattle.psi_route.specs.Pieces.{for_source, for_target, serving, on_side, bound_of, choosing, Stays}
use Rattle.psi_route.proofs.ActingLemmas.{act-some, act-lost, act-stay, taken-past, room_or_lacks}
use Rattle.psi_route.proofs.PlainLemmas.{first_best}
use Rattle.psi_route.proofs.PiecesLemmas.{set-within, r_source, long_serving, serving-other, one-below, least-below, target, target-source, long_target, long_side, target-same, target-other, first_bounds, long_first_bounds, bound-first, bound-source, side-test, kept-sum, joined-sum, joined-long, room-test, lacks-test}

module _ (s : Shape) (is : IsRouteShape s) (two : length s.targets ≡ 2) where
  abbrev queue : ℕ → ℕ
  queue i = target s is i

  abbrev source : ℕ
  source = r_source s is

  abbrev least : ℕ
  least = (routing s).least

  second-first : queue 1 ≢ queue 0
  second-first = λ e. (let same = is.apart 1 0 (omega arith) (omega arith) e in omega arith)

  -- the bounds
  abbrev bounds : List ℕ
  bounds = for_target s 1 (first_bounds s is) (bound_of s 1)

  long_bounds : length bounds ≡ length s.caps
  long_bounds = long_target s is 1 (first_bounds s is) (bound_of s 1) (long_first_bounds s is)

  -- a state
  module _ (x : List ℕ) (below : IsBelow x s.caps) where
    abbrev y : List ℕ
    y = act (routing s) x

    -- the source serves, and the first target is on a side
    first-side : (side : Side) → all_on (on_side s 0 (serving s) side) bounds x ≡ (is_on side (bound_of s 0) (slice_index x (queue 0)) && nat_le least (slice_index x source))
    first-side side =
        side-test s is side bounds x (omega arith) long_bounds below.same_length
        (target-other s is 1 (first_bounds s is) (bound_of s 1) (queue 0) (λ e. second-first (sym e)) ∙ bound-first s is (omega arith))
        (λ small. target-other s is 1 (first_bounds s is) (bound_of s 1) source (λ e. target-source s is 1 (omega arith) (sym e)) ∙ bound-source s is (omega arith) small)

    first-test : first_on (choosing s) x ≡ (nat_lt (slice_index x (queue 0)) (bound_of s 0) && nat_le least (slice_index x source))
    first-test = first-side Below

    -- the second one has room beside it
    second-test : second_on (choosing s) x
        ≡ (nat_lt (slice_index x (queue 1)) (bound_of s 1) && (nat_le (bound_of s 0) (slice_index x (queue 0)) && nat_le least (slice_index x source)))
    second-test =
        let small = is.named 1 (omega arith) in
        let long_sides = long_side s is 0 (serving s) AtLeast (long_serving s is) in
        let long_bound = long_bounds in
        set-on (on_side s 0 (serving s) AtLeast) (queue 1) Below bounds x (omega arith) (omega arith) (omega (arith, below.same_length))
        (get_or-set_other {A = Side} (serving s) (queue 0) (queue 1) AtLeast Any second-first ∙ serving-other s is (queue 1) small (target-source s is 1 (omega arith)))
        ∙ (ap (λ b. nat_lt (slice_index x (queue 1)) (slice_index bounds (queue 1)) && b) (first-side AtLeast)
        ∙ ap (λ v. nat_lt (slice_index x (queue 1)) v && (nat_le (bound_of s 0) (slice_index x (queue 0)) && nat_le least (slice_index x source)))
        (target-same s is 1 (first_bounds s is) (bound_of s 1) (omega arith) (long_first_bounds s is)))

    -- it serves
    module _ (serves : least ≤ slice_index x source) (plain : length s.tables ≡ 0) where
      served : nat_le least (slice_index x source) ≡ true
      served = le-leb least (slice_index x source) serves

      -- and the first target has room
      first-sum : HasRoom (routing s) 0 (slice_index x (queue 0)) → IsSum (choosing s) x y
      first-sum room =
          let tests = room-test s is x below 0 (omega arith) room in
          let same = act-some (routing s) x 0 serves (first_best s x 0 plain (omega arith) room (record { each = λ i small. absurd (omega arith) })) in
          sum-by (choosing s) x y true false (first-test ∙ and_from _ _ tests.0 served) (second-test ∙ and_right _ _ (and_left _ _ tests.1))
          (joined-long s is x below 0 same) (λ q inside. (let sum = joined-sum s is x below 0 (omega arith) serves same q inside in omega arith))

      -- and it has none
      module _ (lacks : Lacks (routing s) 0 (slice_index x (queue 0))) where
        first-off : first_on (choosing s) x ≡ false
        first-off = first-test ∙ and_left _ _ (lacks-test s is x below 0 (omega arith) lacks).0

        rest-on : (nat_le (bound_of s 0) (slice_index x (queue 0)) && nat_le least (slice_index x source)) ≡ true
        rest-on = and_from _ _ (lacks-test s is x below 0 (omega arith) lacks).1 served

        none-first : NoRoom (routing s) x 1
        none-first = record { each = λ i less. (let zero_place : 0 ≡ i = omega arith in subst (λ j. Lacks (routing s) j (slice_index x (queue j))) zero_place lacks) }

        -- but the second has
        second-sum : HasRoom (routing s) 1 (slice_index x (queue 1)) → IsSum (choosing s) x y
        second-sum room =
            let same = act-some (routing s) x 1 serves (first_best s x 1 plain (omega arith) room none-first) in
            sum-by (choosing s) x y false true first-off (second-test ∙ and_from _ _ (room-test s is x below 1 (omega arith) room).0 rest-on)
            (joined-long s is x below 1 same) (λ q inside. (let sum = joined-sum s is x below 1 (omega arith) serves same q inside in omega arith))

        -- nor has the second
        full-sum : Lacks (routing s) 1 (slice_index x (queue 1)) → Stays s → IsSum (choosing s) x y
        full-sum lacks_too stays =
            let none_has : NoRoom (routing s) x (length s.targets) = record {
              each = λ i small. (elim (cases_lt i 1) [
                | inl first ↦ none-first.each i first
                | inr other ↦ (let one_place : 1 ≡ i = omega arith in subst (λ j. Lacks (routing s) j (slice_index x (queue j))) one_place lacks_too)
              ]);
            } in
            kept-sum s is x below (choosing s)
            (elim stays [
              | inl kept ↦ act-stay (routing s) x serves none_has kept (omega arith)
              | inr past ↦ elim (cases_Bool ((routing s).lost)) [
                | inl lost ↦ act-lost (routing s) x serves none_has (inl lost) ∙ taken-past (routing s) x (omega (arith, below.same_length))
                | inr kept ↦ act-stay (routing s) x serves none_has kept (omega arith)
              ]
            ])
            first-off (second-test ∙ and_left _ _ (lacks-test s is x below 1 (omega arith) lacks_too).0)

    choosing-sum : length s.tables ≡ 0 → Stays s → IsSum (choosing s) x y
    choosing-sum plain stays = elim (cases_lt (slice_index x source) least) [
      | inl idle ↦ (let off = lt-leb least (slice_index x source) idle in
          kept-sum s is x below (choosing s) (act-idle (routing s) x idle) (first-test ∙ and_right _ _ off) (second-test ∙ and_right _ _ (and_right _ _ off)))
      | inr serves ↦ elim (room_or_lacks (routing s) 0 (slice_index x (queue 0))) [
        | inl room ↦ first-sum serves plain room
        | inr lacks ↦ elim (room_or_lacks (routing s) 1 (slice_index x (queue 1))) [
          | inl room ↦ second-sum serves plain lacks room
          | inr lacks_too ↦ full-sum serves plain lacks lacks_too stays
        ]
      ]
    ]

  -- ---- the pieces are of the network

  bound-fits : (i : ℕ) → bound_of s i ≤ slice_index s.caps (queue i)
  bound-fits i = (let sized = is.sized in omega arith)

  pub choosing-does : length s.tables ≡ 0 → Stays s → Does s.caps (choosing s) (routed s)
  unfolding routed
  choosing-does plain stays = record {
    valid = record {
      bounds = set-within s.caps (first_bounds s is) (queue 1) (bound_of s 1)
          (set-within s.caps (for_source s least) (queue 0) (bound_of s 0) (least-below s is) (λ _. bound-fits 0)) (λ _. bound-fits 1);
      first = record {
        sides = long_side s is 0 (serving s) Below (long_serving s is);
        ups = set-within s.caps (zeros s.caps) (queue 0) s.size (zeros-caps s.caps) (λ _. is.fits 0 (omega arith));
        downs = one-below s is;
      };
      second = record {
        sides = long_side s is 1 (on_side s 0 (serving s) AtLeast) Below (long_side s is 0 (serving s) AtLeast (long_serving s is));
        ups = set-within s.caps (zeros s.caps) (queue 1) s.size (zeros-caps s.caps) (λ _. is.fits 1 (omega arith));
        downs = one-below s is;
      };
    };
    each = λ x below. choosing-sum x below plain stays;
  }

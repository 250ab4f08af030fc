-- Lemmas. What the pieces of a route add and take is what it does.
use Rattle.std.specs.Prelude.{◌≡◌, ◌≢◌, ℕ, ◌+◌, ◌<◌, ◌≤◌, List, length, replicate, slice_index, slice_index_or, slice_set, Bool, true, false, ◌&&◌, nat_le, nat_lt, if◌then◌else◌, refl}
use Rattle.std.proofs.Common.{inl, inr, ap, sym, ◌∙◌, subst, arith, length-set, get_or-set_same, get_or-set_other}
use Rattle.std.proofs.lemmas.Bool.{cases_lt, cases_eq, cases_Bool, lt-ltb, le-ltb, le-leb, lt-leb, and_left, and_right, and_from}
use Rattle.std.proofs.lemmas.List.{set_past, get_or-replicate, length-replicate}
use Rattle.psi_state.specs.State.{IsBelow, zeros}
use Rattle.psi_state.proofs.BoxesLemmas.{set-below}
use Rattle.psi_state.proofs.StatesLemmas.{zeros-caps}
use Rattle.psi_event.specs.declared.sides.Side.{Side}
use Rattle.psi_event.specs.declared.sides.Side.TheVariants.{Any, AtLeast, Below}
use Rattle.psi_event.specs.declared.piecewise.Piecewise.{Piecewise}
use Rattle.psi_event.specs.Piecewise.{is_on, all_on, first_on, second_on, IsSum, Does}
use Rattle.psi_event.proofs.TestingLemmas.{free-on, set-on, sum-by}
use Rattle.psi_route.specs.Routing.{Shape, routing, act, routed, taken, HasRoom, Lacks}
use Rattle.psi_route.specs.Acting.{NoRoom}
use Rattle.psi_route.specs.Inner.ActingLaws.{act-idle}
use Rattle.psi_route.specs.Accepted.{IsRouteShape}
use Rattle.psi_route.specs.Pieces.{for_source, for_target, serving, on_side, bound_of, leaving, joining}
use Rattle.psi_route.proofs.AcceptedLemmas.{routing-is, source-most}
use Rattle.psi_route.proofs.ActingLemmas.{act-some, act-lost, act-stay, taken-other, taken-same, length-taken, room_or_lacks}
use Rattle.psi_route.proofs.PlainLemmas.{first_best}

and-true : (b : Bool) → (b && true) ≡ b
and-true true = refl
and-true false = refl

pub at-zero : (caps : List ℕ) (q : ℕ) → q < length caps → slice_index (zeros caps) q ≡ 0
at-zero caps q small = get_or-replicate {A = ℕ} (length caps) q 0 0 small

-- a number that a queue has room for keeps a list within the capacities
pub set-within : (caps xs : List ℕ) (p v : ℕ) → IsBelow xs caps → (p < length caps → v ≤ slice_index caps p) → IsBelow (slice_set xs p v) caps
set-within caps xs p v below fits =
    elim (cases_lt p (length caps)) [
      | inl small ↦ set-below xs caps p v below (fits small)
      | inr past ↦ rw (set_past {X = ℕ} xs p v (omega (arith, past, below.same_length))) below
    ]

pub long-zero : (caps : List ℕ) → length (zeros caps) ≡ length caps
long-zero caps = length-replicate {A = ℕ} (length caps) 0

module _ (s : Shape) (is : IsRouteShape s) where
  abbrev pub r_source : ℕ
  r_source = (routing s).source

  pub long_source : (v : ℕ) → length (for_source s v) ≡ length s.caps
  long_source v = length-set {A = ℕ} (zeros s.caps) r_source v ∙ long-zero s.caps

  -- its entries
  pub source-same : (v : ℕ) → r_source < length s.caps → slice_index (for_source s v) r_source ≡ v
  source-same v small = get_or-set_same {A = ℕ} (zeros s.caps) r_source v 0 (let long = long-zero s.caps in omega arith)

  pub source-other : (v q : ℕ) → q < length s.caps → q ≢ r_source → slice_index (for_source s v) q ≡ 0
  source-other v q small other = get_or-set_other {A = ℕ} (zeros s.caps) r_source q v 0 other ∙ at-zero s.caps q small

  -- the sides where it serves
  abbrev anywhere : List Side
  anywhere = replicate (length s.caps) Any

  pub long_serving : length (serving s) ≡ length s.caps
  long_serving = length-set {A = Side} anywhere r_source AtLeast ∙ length-replicate {A = Side} (length s.caps) Any

  pub serving-other : (q : ℕ) → q < length s.caps → q ≢ r_source → slice_index_or (serving s) q Any ≡ Any
  serving-other q small other = get_or-set_other {A = Side} anywhere r_source q AtLeast Any other ∙ get_or-replicate {A = Side} (length s.caps) q Any Any small

  -- the source serves exactly where its test holds
  pub serve-test : (bounds x : List ℕ) → length bounds ≡ length s.caps → length x ≡ length s.caps
      → (r_source < length s.caps → slice_index bounds r_source ≡ (routing s).least)
      → all_on (serving s) bounds x ≡ nat_le ((routing s).least) (slice_index x r_source)
  serve-test bounds x long_bounds long_x at_source = elim (cases_lt r_source (length s.caps)) [
    | inl small ↦ set-on anywhere r_source AtLeast bounds x (let long = length-replicate {A = Side} (length s.caps) Any in omega arith) (omega arith) (omega arith) (get_or-replicate {A = Side} (length s.caps) r_source Any Any small)
        ∙ ap (λ b. nat_le (slice_index bounds r_source) (slice_index x r_source) && b) (free-on (length s.caps) bounds x)
        ∙ and-true (nat_le (slice_index bounds r_source) (slice_index x r_source))
        ∙ ap (λ n. nat_le n (slice_index x r_source)) (at_source small)
    | inr past ↦ ap (λ (sides : List Side). all_on sides bounds x) (set_past {X = Side} anywhere r_source AtLeast (let long = length-replicate {A = Side} (length s.caps) Any in omega arith))
        ∙ free-on (length s.caps) bounds x
        ∙ sym (le-leb ((routing s).least) (slice_index x r_source) (elim (routing-is s is).sourced [
          | inl small ↦ absurd (omega arith)
          | inr none ↦ omega arith
        ]))
  ]

  -- ---- the targets

  abbrev pub target : ℕ → ℕ
  target i = slice_index s.targets i

  pub target-source : (i : ℕ) → i < length s.targets → target i ≢ r_source
  target-source i place = (routing-is s is).no_source i place

  pub long_target : (i : ℕ) (list : List ℕ) (v : ℕ) → length list ≡ length s.caps → length (for_target s i list v) ≡ length s.caps
  long_target i list v long = length-set {A = ℕ} list (target i) v ∙ long

  pub long_side : (i : ℕ) (sides : List Side) (side : Side) → length sides ≡ length s.caps → length (on_side s i sides side) ≡ length s.caps
  long_side i sides side long = length-set {A = Side} sides (target i) side ∙ long

  pub target-same : (i : ℕ) (list : List ℕ) (v : ℕ) → i < length s.targets → length list ≡ length s.caps → slice_index (for_target s i list v) (target i) ≡ v
  target-same i list v place long = get_or-set_same {A = ℕ} list (target i) v 0 (let small = is.named i place in omega arith)

  pub target-other : (i : ℕ) (list : List ℕ) (v q : ℕ) → q ≢ target i → slice_index (for_target s i list v) q ≡ slice_index list q
  target-other i list v q other = get_or-set_other {A = ℕ} list (target i) q v 0 other

  -- the bounds of the source and the first target
  abbrev pub first_bounds : List ℕ
  first_bounds = for_target s 0 (for_source s ((routing s).least)) (bound_of s 0)

  pub long_first_bounds : length first_bounds ≡ length s.caps
  long_first_bounds = long_target 0 (for_source s ((routing s).least)) (bound_of s 0) (long_source ((routing s).least))

  pub bound-first : 0 < length s.targets → slice_index first_bounds (target 0) ≡ bound_of s 0
  bound-first some = target-same 0 (for_source s ((routing s).least)) (bound_of s 0) some (long_source ((routing s).least))

  pub bound-source : 0 < length s.targets → r_source < length s.caps → slice_index first_bounds r_source ≡ (routing s).least
  bound-source some small =
      target-other 0 (for_source s ((routing s).least)) (bound_of s 0) r_source (λ e. target-source 0 some (sym e)) ∙ source-same ((routing s).least) small

  -- a piece applies exactly where the first target is on its side and the source serves
  pub side-test : (side : Side) (bounds x : List ℕ) → 0 < length s.targets → length bounds ≡ length s.caps → length x ≡ length s.caps
      → slice_index bounds (target 0) ≡ bound_of s 0 → (r_source < length s.caps → slice_index bounds r_source ≡ (routing s).least)
      → all_on (on_side s 0 (serving s) side) bounds x
      ≡ (is_on side (bound_of s 0) (slice_index x (target 0)) && nat_le ((routing s).least) (slice_index x r_source))
  side-test side bounds x some long_bounds long_x at_first at_source =
      let small = is.named 0 some in
      let long_sides = long_serving in
      set-on (serving s) (target 0) side bounds x (omega arith) (omega arith) (omega arith) (serving-other (target 0) small (target-source 0 some))
      ∙ ap (λ b. is_on side (slice_index bounds (target 0)) (slice_index x (target 0)) && b) (serve-test bounds x long_bounds long_x at_source)
      ∙ ap (λ v. is_on side v (slice_index x (target 0)) && nat_le ((routing s).least) (slice_index x r_source)) at_first

  -- ---- what the pieces add and take, queue by queue

  module _ (x : List ℕ) (below : IsBelow x s.caps) where
    abbrev pub y : List ℕ
    y = act (routing s) x

    -- nothing changes where neither piece applies
    pub kept-sum : (p : Piecewise) → y ≡ x → first_on p x ≡ false → second_on p x ≡ false → IsSum p x y
    kept-sum p same first_off second_off =
        sum-by p x y false false first_off second_off (ap (λ (z : List ℕ). length z) same)
        (λ q small. (let at = ap (λ (z : List ℕ). slice_index z q) same in omega (arith, at)))

    -- one customer leaves the source
    pub taken-sum : (routing s).least ≤ slice_index x r_source → (q : ℕ) → q < length x
        → slice_index (taken (routing s) x) q + slice_index (for_source s 1) q ≡ slice_index x q
    taken-sum serves q small = elim (cases_eq q r_source) [
      | inl e ↦ subst (λ p. slice_index (taken (routing s) x) p + slice_index (for_source s 1) p ≡ slice_index x p) (sym e)
          (let source_small : r_source < length x = omega (arith, e) in
          let inside : r_source < length s.caps = omega (arith, below.same_length) in
          let own = taken-same (routing s) x source_small in
          let counts = (routing-is s is).counts inside in
          let down = source-same 1 inside in omega (arith, own, counts, down))
      | inr other ↦ (let own = taken-other (routing s) x q other in
          let down = source-other 1 q (omega (arith, below.same_length)) other in omega (arith, own, down))
    ]

    -- and customers join a target
    pub joined-sum : (j : ℕ) → j < length s.targets → (routing s).least ≤ slice_index x r_source → y ≡ slice_set (taken (routing s) x) (target j) (slice_index x (target j) + s.size)
        → (q : ℕ) → q < length x
        → slice_index y q + slice_index (for_source s 1) q ≡ slice_index x q + slice_index (for_target s j (zeros s.caps) s.size) q
    joined-sum j place serves same q small =
        let at_y = ap (λ (z : List ℕ). slice_index z q) same in
        elim (cases_eq q (target j)) [
          | inl e ↦ subst (λ p. slice_index y p + slice_index (for_source s 1) p ≡ slice_index x p + slice_index (for_target s j (zeros s.caps) s.size) p) (sym e)
              (let t_small = is.named j place in
              let long_taken = length-taken (routing s) x in
              let at = ap (λ (z : List ℕ). slice_index z (target j)) same
              ∙ get_or-set_same {A = ℕ} (taken (routing s) x) (target j) (slice_index x (target j) + s.size) 0 (omega (arith, below.same_length)) in
              let down = source-other 1 (target j) t_small (target-source j place) in
              let up = target-same j (zeros s.caps) s.size place (long-zero s.caps) in omega (arith, at, down, up))
          | inr other ↦ (let at = at_y ∙ get_or-set_other {A = ℕ} (taken (routing s) x) (target j) q (slice_index x (target j) + s.size) 0 other in
              let up = target-other j (zeros s.caps) s.size q other ∙ at-zero s.caps q (omega (arith, below.same_length)) in
              let sum = taken-sum serves q small in omega (arith, at, up, sum))
        ]

    pub joined-long : (j : ℕ) → y ≡ slice_set (taken (routing s) x) (target j) (slice_index x (target j) + s.size) → length y ≡ length x
    joined-long j same =
        ap (λ (z : List ℕ). length z) same
        ∙ (length-set {A = ℕ} (taken (routing s) x) (target j) (slice_index x (target j) + s.size) ∙ length-taken (routing s) x)

    pub room-test : (i : ℕ) → i < length s.targets → HasRoom (routing s) i (slice_index x (target i))
        → (nat_lt (slice_index x (target i)) (bound_of s i) ≡ true) × (nat_le (bound_of s i) (slice_index x (target i)) ≡ false)
    room-test i place room =
        let less : slice_index x (target i) < bound_of s i = omega (arith, is.sized, is.fits i place) in
        (lt-ltb (slice_index x (target i)) (bound_of s i) less, lt-leb (bound_of s i) (slice_index x (target i)) less)

    pub lacks-test : (i : ℕ) → i < length s.targets → Lacks (routing s) i (slice_index x (target i))
        → (nat_lt (slice_index x (target i)) (bound_of s i) ≡ false) × (nat_le (bound_of s i) (slice_index x (target i)) ≡ true)
    lacks-test i place lacks =
        let most : bound_of s i ≤ slice_index x (target i) = omega (arith, is.sized, is.fits i place) in
        (le-ltb (slice_index x (target i)) (bound_of s i) most, le-leb (bound_of s i) (slice_index x (target i)) most)

    -- where there is no target
    leaving-sum : length s.targets ≡ 0 → IsSum (leaving s) x y
    leaving-sum none =
        let is_first : first_on (leaving s) x ≡ nat_le ((routing s).least) (slice_index x r_source) =
        serve-test (for_source s ((routing s).least)) x (long_source ((routing s).least)) below.same_length (source-same ((routing s).least)) in
        let is_second : second_on (leaving s) x ≡ true = free-on (length s.caps) (for_source s ((routing s).least)) x in
        elim (cases_lt (slice_index x r_source) ((routing s).least)) [
          | inl idle ↦ (let same = act-idle (routing s) x idle in
              sum-by (leaving s) x y false true (is_first ∙ lt-leb ((routing s).least) (slice_index x r_source) idle) is_second (ap (λ (z : List ℕ). length z) same)
              (λ q small. (let at = ap (λ (z : List ℕ). slice_index z q) same in
              let zero = at-zero s.caps q (omega (arith, below.same_length)) in omega (arith, at, zero))))
          | inr serves ↦ (let same = act-lost (routing s) x serves (record { each = λ i small. absurd (omega arith) }) (inr none) in
              sum-by (leaving s) x y true true (is_first ∙ le-leb ((routing s).least) (slice_index x r_source) serves) is_second
              (ap (λ (z : List ℕ). length z) same ∙ length-taken (routing s) x)
              (λ q small. (let at = ap (λ (z : List ℕ). slice_index z q) same in
              let zero = at-zero s.caps q (omega (arith, below.same_length)) in
              let sum = taken-sum serves q small in omega (arith, at, zero, sum))))
        ]

    -- where there is one target
    module _ (one : length s.targets ≡ 1) where
      first-test : first_on (joining s) x ≡ (nat_lt (slice_index x (target 0)) (bound_of s 0) && nat_le ((routing s).least) (slice_index x r_source))
      first-test = side-test Below first_bounds x (omega arith) long_first_bounds below.same_length (bound-first (omega arith)) (bound-source (omega arith))

      second-test : second_on (joining s) x ≡ (nat_le (bound_of s 0) (slice_index x (target 0)) && nat_le ((routing s).least) (slice_index x r_source))
      second-test = side-test AtLeast first_bounds x (omega arith) long_first_bounds below.same_length (bound-first (omega arith)) (bound-source (omega arith))

      -- the source serves, and the target lacks room
      full-sum : (routing s).least ≤ slice_index x r_source → Lacks (routing s) 0 (slice_index x (target 0)) → IsSum (joining s) x y
      full-sum serves lacks =
          let tests = lacks-test 0 (omega arith) lacks in
          let first_off = first-test ∙ and_left _ _ tests.0 in
          let second_on = second-test ∙ and_from _ _ tests.1 (le-leb ((routing s).least) (slice_index x r_source) serves) in
          let none_has : NoRoom (routing s) x (length s.targets) = record { each = λ i small. (let zero_place : 0 ≡ i = omega arith in subst (λ j. Lacks (routing s) j (slice_index x (target j))) zero_place lacks) } in
          elim (cases_Bool ((routing s).lost)) [
            | inl lost ↦ (let same = act-lost (routing s) x serves none_has (inl lost) in
                sum-by (joining s) x y false true first_off second_on (ap (λ (z : List ℕ). length z) same ∙ length-taken (routing s) x)
                (λ q small. (let at = ap (λ (z : List ℕ). slice_index z q) same in
                let zero = at-zero s.caps q (omega (arith, below.same_length)) in
                let gone = ap (λ (b : Bool). slice_index (if b then for_source s 1 else zeros s.caps) q) lost in
                let sum = taken-sum serves q small in omega (arith, at, zero, gone, sum))))
            | inr stays ↦ (let same = act-stay (routing s) x serves none_has stays (omega arith) in
                sum-by (joining s) x y false true first_off second_on (ap (λ (z : List ℕ). length z) same)
                (λ q small. (let at = ap (λ (z : List ℕ). slice_index z q) same in
                let zero = at-zero s.caps q (omega (arith, below.same_length)) in
                let gone = ap (λ (b : Bool). slice_index (if b then for_source s 1 else zeros s.caps) q) stays in
                omega (arith, at, zero, gone))))
          ]

      joining-sum : length s.tables ≡ 0 → IsSum (joining s) x y
      joining-sum plain = elim (cases_lt (slice_index x r_source) ((routing s).least)) [
        | inl idle ↦ (let off = lt-leb ((routing s).least) (slice_index x r_source) idle in
            kept-sum (joining s) (act-idle (routing s) x idle) (first-test ∙ and_right _ _ off) (second-test ∙ and_right _ _ off))
        | inr serves ↦ elim (room_or_lacks (routing s) 0 (slice_index x (target 0))) [
          | inl room ↦ (let tests = room-test 0 (omega arith) room in
              let same = act-some (routing s) x 0 serves (first_best s x 0 plain (omega arith) room (record { each = λ i small. absurd (omega arith) })) in
              sum-by (joining s) x y true false (first-test ∙ and_from _ _ tests.0 (le-leb ((routing s).least) (slice_index x r_source) serves)) (second-test ∙ and_left _ _ tests.1)
              (joined-long 0 same) (λ q small. (let sum = joined-sum 0 (omega arith) serves same q small in omega arith)))
          | inr lacks ↦ full-sum serves lacks
        ]
      ]

  -- ---- the pieces are of the network

  pub source-below : (v : ℕ) → (r_source < length s.caps → v ≤ slice_index s.caps r_source) → IsBelow (for_source s v) s.caps
  source-below v fits = set-within s.caps (zeros s.caps) r_source v (zeros-caps s.caps) fits

  pub one-below : IsBelow (for_source s 1) s.caps
  one-below = source-below 1 (λ small. is.caps.least r_source small)

  pub least-below : IsBelow (for_source s ((routing s).least)) s.caps
  least-below = source-below ((routing s).least) (λ small. source-most s is)

  lost-below : (b : Bool) → IsBelow (if b then for_source s 1 else zeros s.caps) s.caps
  lost-below true = one-below
  lost-below false = zeros-caps s.caps

  pub leaving-does : length s.targets ≡ 0 → Does s.caps (leaving s) (routed s)
  unfolding routed
  leaving-does none = record {
    valid = record {
      bounds = least-below;
      first = record { sides = long_serving; ups = zeros-caps s.caps; downs = one-below };
      second = record { sides = length-replicate {A = Side} (length s.caps) Any; ups = zeros-caps s.caps; downs = zeros-caps s.caps };
    };
    each = λ x below. leaving-sum x below none;
  }

  pub joining-does : length s.targets ≡ 1 → length s.tables ≡ 0 → Does s.caps (joining s) (routed s)
  unfolding routed
  joining-does one plain = record {
    valid = record {
      bounds = set-within s.caps (for_source s ((routing s).least)) (slice_index s.targets 0) (bound_of s 0) least-below (λ small. (let fits = is.fits 0 (omega arith) in omega arith));
      first = record {
        sides = long_side 0 (serving s) Below long_serving;
        ups = set-within s.caps (zeros s.caps) (slice_index s.targets 0) s.size (zeros-caps s.caps) (λ small. is.fits 0 (omega arith));
        downs = one-below;
      };
      second = record {
        sides = long_side 0 (serving s) AtLeast long_serving;
        ups = zeros-caps s.caps;
        downs = lost-below ((routing s).lost);
      };
    };
    each = λ x below. joining-sum x below one plain;
  }

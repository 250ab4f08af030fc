-- The pair of states that a route answers shows that it doesn't keep their order; where there is none, it keeps the order of all.
use Rattle.std.specs.Prelude.{◌≡◌, ◌≢◌, ℕ, ◌+◌, ◌-◌, ◌<◌, ◌≤◌, List, length, slice_index, slice_set, Option, Some, None, true, false, if◌then◌else◌, refl}
use Rattle.std.proofs.Common.{inl, inr, ap, sym, ◌∙◌, subst, arith, length-set, get_or-set_same, get_or-set_other}
use Rattle.std.proofs.lemmas.Bool.{cases_lt, cases_eq, le-leb, lt-leb, false_from_ne_true}
use Rattle.std.proofs.lemmas.Bool.Decides.{nat_tests}
use Rattle.std.proofs.lemmas.Option.{same_Some}
use Rattle.psi_state.specs.State.{IsBelow}
use Rattle.psi_state.proofs.BoxesLemmas.{below-itself, set-below}
use Rattle.psi_event.specs.Law.{IsMonotone, IsUpset, ShowsUpset}
use Rattle.psi_event.proofs.ChoiceLemmas.{first_some-of_none, first_some-of_found}
use Rattle.psi_route.specs.Routing.{Shape, Routing, routing, routed, act, Lacks, IsBest, IsPassed, crosses, Crosses, full_but, pair_of, pair_at, pair_from, pair_between, pair_behind, first_pair, batch_pair, upset_of}
use Rattle.psi_route.proofs.ActingLemmas.{act-routed, false-then_some}
use Rattle.psi_route.specs.Inner.ActingLaws.{true-then_some}
use Rattle.psi_route.specs.Accepted.{IsRouteShape}
use Rattle.psi_route.proofs.AcceptedLemmas.{routing-is, source-most}
use Rattle.psi_route.proofs.MonotoneLemmas.{ordered-without}

-- ---- the test for crossing keys

pub crosses-is : (r : Routing) (a b v w : ℕ) → Crosses r a b v w → crosses r a b v w ≡ true
crosses-is r a b v w cross = grind (arith, nat_tests, cross.two, cross.room, cross.room_b, cross.falls, cross.above)

pub is-crosses : (r : Routing) (a b v w : ℕ) → a < r.places → b < r.places → crosses r a b v w ≡ true → Crosses r a b v w
is-crosses r a b v w first second is = record {
  first = first;
  second = second;
  two = grind (arith, nat_tests, is);
  room = grind (arith, nat_tests, is);
  room_b = grind (arith, nat_tests, is);
  falls = grind (arith, nat_tests, is);
  above = grind (arith, nat_tests, is);
}

-- keys that don't cross fail the test
pub not-crosses : (r : Routing) (a b v w : ℕ) → a < r.places → b < r.places → (Crosses r a b v w → ⊥) → crosses r a b v w ≡ false
not-crosses r a b v w first second apart = false_from_ne_true (crosses r a b v w) (λ passes. apart (is-crosses r a b v w first second passes))

-- ---- states in which all but a few queues are full

-- two lists that differ at one place are in order where the numbers there are
sets-below : (x : List ℕ) (q v w : ℕ) → v ≤ w → IsBelow (slice_set x q v) (slice_set x q w)
sets-below x q v w small = record {
  same_length = length-set {A = ℕ} x q v ∙ sym (length-set {A = ℕ} x q w);
  each = λ i within. (let count : length (slice_set x q v) ≡ length x = length-set {A = ℕ} x q v in
      elim (cases_eq i q) [
        | inl e ↦ (let here : q < length x = omega arith in
            let first : slice_index (slice_set x q v) q ≡ v = get_or-set_same {A = ℕ} x q v 0 here in
            let second : slice_index (slice_set x q w) q ≡ w = get_or-set_same {A = ℕ} x q w 0 here in
            subst (λ j. slice_index (slice_set x q v) j ≤ slice_index (slice_set x q w) j) (sym e) (omega arith))
        | inr ne ↦ (let first : slice_index (slice_set x q v) i ≡ slice_index x i = get_or-set_other {A = ℕ} x q i v 0 ne in
            let second : slice_index (slice_set x q w) i ≡ slice_index x i = get_or-set_other {A = ℕ} x q i w 0 ne in omega arith)
      ]);
}

-- the two places are two queues
queues-apart : (s : Shape) (a b v w : ℕ) → IsRouteShape s → Crosses (routing s) a b v w → slice_index s.targets b ≢ slice_index s.targets a
queues-apart s a b v w is cross = λ e. cross.two (sym (is.apart b a cross.second cross.first e))

full-first : (s : Shape) (a b v w : ℕ) → IsRouteShape s → a < length s.targets → slice_index (full_but s a b v w) (slice_index s.targets a) ≡ v
full-first s a b v w is place =
    let long : length (slice_set s.caps (slice_index s.targets b) w) ≡ length s.caps = length-set {A = ℕ} s.caps (slice_index s.targets b) w in
    let small : slice_index s.targets a < length s.caps = is.named a place in
    get_or-set_same {A = ℕ} (slice_set s.caps (slice_index s.targets b) w) (slice_index s.targets a) v 0 (omega arith)

full-second : (s : Shape) (a b v w : ℕ) → IsRouteShape s → b < length s.targets → slice_index s.targets b ≢ slice_index s.targets a
    → slice_index (full_but s a b v w) (slice_index s.targets b) ≡ w
full-second s a b v w is place other =
    get_or-set_other {A = ℕ} (slice_set s.caps (slice_index s.targets b) w) (slice_index s.targets a) (slice_index s.targets b) v 0 other
    ∙ get_or-set_same {A = ℕ} s.caps (slice_index s.targets b) w 0 (is.named b place)

full-other : (s : Shape) (a b v w p : ℕ) → p ≢ slice_index s.targets a → p ≢ slice_index s.targets b → slice_index (full_but s a b v w) p ≡ slice_index s.caps p
full-other s a b v w p first second =
    get_or-set_other {A = ℕ} (slice_set s.caps (slice_index s.targets b) w) (slice_index s.targets a) p v 0 first
    ∙ get_or-set_other {A = ℕ} s.caps (slice_index s.targets b) p w 0 second

-- the other targets lack room
full-lacks : (s : Shape) (a b v w i : ℕ) → IsRouteShape s → a < length s.targets → b < length s.targets → i < length s.targets → i ≢ a → i ≢ b
    → Lacks (routing s) i (slice_index (full_but s a b v w) (slice_index s.targets i))
full-lacks s a b v w i is first second place no_first no_second =
    let all : slice_index (full_but s a b v w) (slice_index s.targets i) ≡ slice_index s.caps (slice_index s.targets i) =
    full-other s a b v w (slice_index s.targets i) (λ e. no_first (is.apart i a place first e)) (λ e. no_second (is.apart i b place second e)) in
    let some : 1 ≤ s.size = is.sized in
    omega arith

-- and the source serves
full-serves : (s : Shape) (a b v w : ℕ) → IsRouteShape s → a < length s.targets → b < length s.targets
    → (routing s).least ≤ slice_index (full_but s a b v w) ((routing s).source)
full-serves s a b v w is first second =
    let r = routing-is s is in
    let all : slice_index (full_but s a b v w) ((routing s).source) ≡ slice_index s.caps ((routing s).source) =
    full-other s a b v w ((routing s).source) (λ e. r.no_source a first (sym e)) (λ e. r.no_source b second (sym e)) in
    let most : (routing s).least ≤ slice_index s.caps ((routing s).source) = source-most s is in
    omega arith

-- customers join a target in the lesser state and pass it in the greater one, which holds less there than the lesser one does with them
gained-upset : (s : Shape) (x y : List ℕ) (b : ℕ) → IsRouteShape s → IsBelow y s.caps → IsBelow x y → (routing s).least ≤ slice_index x ((routing s).source)
    → IsBest (routing s) x b → IsPassed (routing s) y b → slice_index y (slice_index s.targets b) < slice_index x (slice_index s.targets b) + s.size → IsUpset s.caps (routed s) x y
unfolding routed
gained-upset s x y b is within ordered serves best passed less = record {
  within = within;
  ordered = ordered;
  upset = λ below. (let first = act-routed (routing s) (routing-is s is) x (ordered.same_length ∙ within.same_length) in
      let second = act-routed (routing s) (routing-is s is) y within.same_length in
      let gained : slice_index (act (routing s) x) (slice_index s.targets b) ≡ slice_index x (slice_index s.targets b) + s.size = first.gains b serves best in
      let stayed : slice_index (act (routing s) y) (slice_index s.targets b) ≡ slice_index y (slice_index s.targets b) = second.stays b best.place passed in
      let kept : slice_index (act (routing s) x) (slice_index s.targets b) ≤ slice_index (act (routing s) y) (slice_index s.targets b) =
      below.each (slice_index s.targets b) (omega (arith, first.long, is.named b best.place)) in
      omega arith);
}

-- where keys cross, the pair that is made of them isn't kept in order
pub crossing-upset : (s : Shape) (a b v w : ℕ) → IsRouteShape s → s.size ≡ 1 → Crosses (routing s) a b v w
    → IsUpset s.caps (routed s) (full_but s a b v w) (full_but s a b (v + 1) w)
crossing-upset s a b v w is one cross =
    let apart = queues-apart s a b v w is cross in
    let room : v + 1 < slice_index s.caps (slice_index s.targets a) = cross.room in
    let room_b : w < slice_index s.caps (slice_index s.targets b) = cross.room_b in
    let x_first : slice_index (full_but s a b v w) (slice_index s.targets a) ≡ v = full-first s a b v w is cross.first in
    let y_first : slice_index (full_but s a b (v + 1) w) (slice_index s.targets a) ≡ v + 1 = full-first s a b (v + 1) w is cross.first in
    let x_second : slice_index (full_but s a b v w) (slice_index s.targets b) ≡ w = full-second s a b v w is cross.second apart in
    let y_second : slice_index (full_but s a b (v + 1) w) (slice_index s.targets b) ≡ w = full-second s a b (v + 1) w is cross.second apart in
    gained-upset s (full_but s a b v w) (full_but s a b (v + 1) w) b is
    (set-below (slice_set s.caps (slice_index s.targets b) w) s.caps (slice_index s.targets a) (v + 1)
    (set-below s.caps s.caps (slice_index s.targets b) w (below-itself s.caps) (omega arith)) (omega arith))
    (sets-below (slice_set s.caps (slice_index s.targets b) w) (slice_index s.targets a) v (v + 1) (omega arith))
    (full-serves s a b v w is cross.first cross.second)
    (record {
      place = cross.second;
      room = omega arith;
      others = λ i small other. elim (cases_eq i a) [
        | inl e ↦ inr (rw (e, x_first, x_second) cross.above)
        | inr ne ↦ inl (full-lacks s a b v w i is cross.first cross.second small ne other)
      ];
    })
    (inr (a, cross.first, cross.two, omega arith, rw (y_first, y_second) cross.falls)) (omega arith)

-- ---- routes of several customers

-- what the first target holds, and every other queue is full
batch-serves : (s : Shape) (v : ℕ) → IsRouteShape s → 0 < length s.targets → (routing s).least ≤ slice_index (slice_set s.caps (slice_index s.targets 0) v) ((routing s).source)
batch-serves s v is some =
    let all : slice_index (slice_set s.caps (slice_index s.targets 0) v) ((routing s).source) ≡ slice_index s.caps ((routing s).source) =
    get_or-set_other {A = ℕ} s.caps (slice_index s.targets 0) ((routing s).source) v 0 (λ e. (routing-is s is).no_source 0 some (sym e)) in
    let most : (routing s).least ≤ slice_index s.caps ((routing s).source) = source-most s is in
    omega arith

pub batch-upset : (s : Shape) → IsRouteShape s → 2 ≤ s.size → IsUpset s.caps (routed s) ((batch_pair s).0) ((batch_pair s).1)
batch-upset s is several =
    let q = slice_index s.targets 0 in
    let v = slice_index s.caps q - s.size in
    let some : 1 ≤ length s.targets = is.some several in
    let small : q < length s.caps = is.named 0 (omega arith) in
    let fits : s.size ≤ slice_index s.caps q = is.fits 0 (omega arith) in
    let x_first : slice_index (slice_set s.caps q v) q ≡ v = get_or-set_same {A = ℕ} s.caps q v 0 small in
    let y_first : slice_index (slice_set s.caps q (v + 1)) q ≡ v + 1 = get_or-set_same {A = ℕ} s.caps q (v + 1) 0 small in
    gained-upset s (slice_set s.caps q v) (slice_set s.caps q (v + 1)) 0 is
    (set-below s.caps s.caps q (v + 1) (below-itself s.caps) (omega arith)) (sets-below s.caps q v (v + 1) (omega arith)) (batch-serves s v is (omega arith))
    (record {
      place = omega arith;
      room = omega arith;
      others = λ i place other.
          (let all : slice_index (slice_set s.caps q v) (slice_index s.targets i) ≡ slice_index s.caps (slice_index s.targets i) =
          get_or-set_other {A = ℕ} s.caps q (slice_index s.targets i) v 0 (λ e. other (is.apart i 0 place (omega arith) e)) in
          inl (omega arith));
    })
    (inl (omega arith)) (omega arith)

-- ---- the fixed pair

-- where the search finds no pair, no keys cross
pub pair-none : (s : Shape) (a b v w : ℕ) → first_pair s ≡ None → Crosses (routing s) a b v w → ⊥
unfolding first_pair pair_behind pair_between pair_from
pair-none s a b v w is cross =
    let room : v + 1 < slice_index s.caps (slice_index s.targets a) = cross.room in
    let room_b : w < slice_index s.caps (slice_index s.targets b) = cross.room_b in
    let first : a < length s.targets = cross.first in
    let second : b < length s.targets = cross.second in
    let behind = first_some-of_none (λ i. pair_behind s i) 0 (length s.targets) is a (omega arith) (omega arith) in
    let between = first_some-of_none (λ j. pair_between s a j) 0 (length s.targets) behind b (omega arith) (omega arith) in
    let values = first_some-of_none (λ t. pair_from s a b t) 0 (slice_index s.caps (slice_index s.targets a)) between v (omega arith) (omega arith) in
    let here = first_some-of_none (λ t. pair_at s a b v t) 0 (slice_index s.caps (slice_index s.targets b)) values w (omega arith) (omega arith) in
    let fails : crosses (routing s) a b v w ≡ false = false-then_some (crosses (routing s) a b v w) (pair_of s a b v w) here in
    let holds : crosses (routing s) a b v w ≡ true = crosses-is (routing s) a b v w cross in
    absurd cc

-- what the search finds is made of keys that cross
pub pair-some : (s : Shape) (p : List ℕ × List ℕ) → first_pair s ≡ Some p
    → (a : ℕ) × (b : ℕ) × (v : ℕ) × (w : ℕ) × Crosses (routing s) a b v w × (pair_of s a b v w ≡ p)
unfolding first_pair pair_behind pair_between pair_from
pair-some s p is =
    let behind = first_some-of_found (λ i. pair_behind s i) 0 (length s.targets) p is in
    let between = first_some-of_found (λ j. pair_between s behind.0 j) 0 (length s.targets) p behind.3 in
    let values = first_some-of_found (λ t. pair_from s behind.0 between.0 t) 0 (slice_index s.caps (slice_index s.targets behind.0)) p between.3 in
    let here = first_some-of_found (λ t. pair_at s behind.0 between.0 values.0 t) 0 (slice_index s.caps (slice_index s.targets between.0)) p values.3 in
    let found = true-then_some (crosses (routing s) behind.0 between.0 values.0 here.0) (pair_of s behind.0 between.0 values.0 here.0) p here.3 in
    let first : behind.0 < length s.targets = (let high = behind.2 in omega (arith, high)) in
    let second : between.0 < length s.targets = (let high = between.2 in omega (arith, high)) in
    (behind.0, between.0, values.0, here.0, is-crosses (routing s) behind.0 between.0 values.0 here.0 first second found.0, found.1)

pub upset-several : (s : Shape) → 2 ≤ s.size → upset_of s ≡ Some (batch_pair s)
unfolding upset_of
upset-several s several = ap (λ t. if t then Some (batch_pair s) else first_pair s) (le-leb 2 s.size several)

pub upset-single : (s : Shape) → s.size < 2 → upset_of s ≡ first_pair s
unfolding upset_of
upset-single s single = ap (λ t. if t then Some (batch_pair s) else first_pair s) (lt-leb 2 s.size single)

-- where there is no pair, the route keeps the order of all states
pub upset-none : (s : Shape) → IsRouteShape s → upset_of s ≡ None → IsMonotone s.caps (routed s)
unfolding routed
upset-none s is none_found =
    elim (cases_lt s.size 2) [
      | inr several ↦ absurd (let there : upset_of s ≡ Some (batch_pair s) = upset-several s several in cc)
      | inl single ↦ (let one : s.size ≡ 1 = (let some : 1 ≤ s.size = is.sized in omega arith) in record {
        each = λ x y within below. ordered-without (routing s) x y (routing-is s is) one
            (λ a b v w cross. pair-none s a b v w (sym (upset-single s single) ∙ none_found) cross)
            (below.same_length ∙ within.same_length) within.same_length below;
      })
    ]

-- and the pair isn't kept in order
pub upset-some : (s : Shape) (p : List ℕ × List ℕ) → IsRouteShape s → upset_of s ≡ Some p → IsUpset s.caps (routed s) p.0 p.1
upset-some s p is found =
    elim (cases_lt s.size 2) [
      | inr several ↦ (let same : batch_pair s ≡ p = same_Some (batch_pair s) p (sym (upset-several s several) ∙ found) in
          subst (λ (t : List ℕ × List ℕ). IsUpset s.caps (routed s) t.0 t.1) same (batch-upset s is several))
      | inl single ↦ (let one : s.size ≡ 1 = (let some : 1 ≤ s.size = is.sized in omega arith) in
          let made = pair-some s p (sym (upset-single s single) ∙ found) in
          subst (λ (t : List ℕ × List ℕ). IsUpset s.caps (routed s) t.0 t.1) made.5 (crossing-upset s made.0 made.1 made.2 made.3 is one made.4))
    ]

-- so the pair shows whether it does
pub upset-shows : (s : Shape) → IsRouteShape s → ShowsUpset s.caps (routed s) (upset_of s)
upset-shows s is = shown s is (upset_of s) refl
  where
    shown : (s : Shape) → IsRouteShape s → (o : Option (List ℕ × List ℕ)) → upset_of s ≡ o → ShowsUpset s.caps (routed s) o
    shown s is None found = upset-none s is found
    shown s is (Some p) found = upset-some s p is found

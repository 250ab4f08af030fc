-- What each region of a run is, and what its log has of it.
use Rattle.std.proofs.Common.{◌≡◌, ℕ, zero, suc, ◌-◌, ◌≤◌, List, [], ◌∷◌, length, map, Bool, true, false, nat_le, slice_index, inl, inr, if◌then◌else◌, refl, sym, ◌∙◌, ap, subst, arith}
use Rattle.std.proofs.lemmas.Bool.{true≢false, cases_Bool, cases_lt, or_cases, leb-true}
use Rattle.std.proofs.lemmas.List.{get_or_past, length-map}
use Rattle.psi_state.specs.State.{IsBelow, AreCapacities, zeros}
use Rattle.psi_state.specs.Members.{In, AreAmong}
use Rattle.psi_state.specs.Sets.{image}
use Rattle.psi_state.specs.Hull.{lows, highs, corners, hull, HaveLength, IsTight}
use Rattle.psi_state.specs.Boxes.{IsBetween}
use Rattle.psi_state.proofs.BoxesLemmas.{below-through}
use Rattle.psi_state.proofs.SetsLemmas.{In-image, In-of_ascending}
use Rattle.psi_state.proofs.HullLemmas.{corners-tight}
use Rattle.psi_state.proofs.StatesLemmas.{zeros-caps, hull-box}
use Rattle.psi_state.proofs.AscendingLemmas.{image-rising, rising-distinct, length-among}
use Rattle.psi_event.specs.Law.{IsClosed}
use Rattle.psi_rate.specs.Composition.{AreClosed}
use Rattle.psi_region.specs.Region.{Area, start, splits, step, next, IsArea}
use Rattle.psi_region.proofs.RegionLemmas.{start-area, step-area, image-length, tight-high}
use Rattle.psi_horizon.specs.Runs.{region_after}
use Rattle.psi_log_format.specs.Log.{LogRegion, in_box, in_set, IsState, IsBox, IsSet, IsRegion}
use Rattle.psi_replay.specs.Verdict.{states_of}
use Rattle.psi_log_writer.specs.Recorded.{region_of}
use Rattle.psi_log_writer.proofs.WalkingLemmas.{region_of-set}

-- a region of a run: where it isn't split it is the box of its corners, and else it has at most the split number of states
pub record IsKept (split : ℕ) (caps : List ℕ) (a : Area) : Type 0 where
  pub area : IsArea caps a
  pub boxed : a.is_split ≡ false → hull a.states ≡ a.states
  pub few : a.is_split ≡ true → length a.states ≤ split

-- the image of a list is no longer than it
pub length-image : (f : List ℕ → List ℕ) (xs : List (List ℕ)) → length (image f xs) ≤ length xs
length-image f xs =
    let among : AreAmong (image f xs) (map f xs) = record { each = λ x member. In-of_ascending x (map f xs) member } in
    let most : length (image f xs) ≤ length (map f xs) = length-among (image f xs) (map f xs) (rising-distinct (image f xs) (image-rising f xs)) among in
    let same : length (map f xs) ≡ length xs = length-map xs f in
    omega arith

-- the hull of a hull is that hull
hull-twice : (n : ℕ) (z : List ℕ) (xs : List (List ℕ)) → HaveLength n xs → In z xs → hull (hull xs) ≡ hull xs
unfolding hull
hull-twice n z xs lengths member =
    let inside : IsBetween (lows xs) (highs xs) z = (corners-tight n z xs lengths member).inside z member in
    hull-box (lows xs) (highs xs) (below-through (lows xs) z (highs xs) inside.low inside.high)

pub kept-start : (split : ℕ) (caps : List ℕ) → IsKept split caps (start caps)
kept-start split caps = record {
  area = start-area caps;
  boxed = λ plain. hull-box (zeros caps) caps (zeros-caps caps);
  few = λ is. absurd (true≢false (sym is));
}

next-boxed : (caps : List ℕ) (f : List ℕ → List ℕ) (a : Area) (b : Bool) → IsClosed caps f → IsArea caps a → (next b f a.states).is_split ≡ false
    → hull (next b f a.states).states ≡ (next b f a.states).states
next-boxed caps f a true closed is plain = absurd (true≢false plain)
next-boxed caps f a false closed is plain =
    hull-twice (length caps) (f is.some.0) (image f a.states) (image-length caps f a.states closed is.within) (In-image f is.some.0 a.states is.some.1)

next-few : (split : ℕ) (f : List ℕ → List ℕ) (a : Area) (b : Bool) → (b ≡ true → length a.states ≤ split) → (next b f a.states).is_split ≡ true
    → length (next b f a.states).states ≤ split
next-few split f a true few is = (let most = length-image f a.states in let own : length a.states ≤ split = few refl in omega arith)
next-few split f a false few is = absurd (true≢false (sym is))

-- a region that splits has few states
pub splits-few : (split : ℕ) (caps : List ℕ) (a : Area) → IsKept split caps a → splits split a ≡ true → length a.states ≤ split
splits-few split caps a kept is = elim (or_cases a.is_split (nat_le (length a.states) split) is) [
  | inl already ↦ kept.few already
  | inr small ↦ leb-true (length a.states) split small
]

pub kept-step : (split : ℕ) (caps : List ℕ) (f : List ℕ → List ℕ) (a : Area) → IsClosed caps f → IsKept split caps a → IsKept split caps (step split f a)
unfolding step
kept-step split caps f a closed kept = record {
  area = step-area split caps f a closed kept.area;
  boxed = next-boxed caps f a (splits split a) closed kept.area;
  few = next-few split f a (splits split a) (splits-few split caps a kept);
}

pub kept-after : (split : ℕ) (caps : List ℕ) (f : ℕ → List ℕ → List ℕ) (horizon done : ℕ) → AreClosed caps f → IsKept split caps (region_after split f caps horizon done)
kept-after split caps f horizon zero closed = kept-start split caps
kept-after split caps f horizon (suc done) closed =
    kept-step split caps (f (horizon - done)) (region_after split f caps horizon done) (closed.each (horizon - done)) (kept-after split caps f horizon done closed)

-- the log has its states
pub region_of-plain : (a : Area) → a.is_split ≡ false → region_of a ≡ in_box (corners a.states)
region_of-plain a is = ap (λ (split : Bool). if split then in_set a.states else in_box (corners a.states)) is

pub states_of-region : (split : ℕ) (caps : List ℕ) (a : Area) → IsKept split caps a → states_of (region_of a) ≡ a.states
unfolding hull
states_of-region split caps a kept = elim (cases_Bool a.is_split) [
  | inl is ↦ ap (λ (r : LogRegion). states_of r) (region_of-set a is)
  | inr plain ↦ ap (λ (r : LogRegion). states_of r) (region_of-plain a plain) ∙ kept.boxed plain
]

-- a state within the capacities is one of their queues
pub state-below : (caps x : List ℕ) → AreCapacities caps → IsBelow x caps → IsState (length caps) x
state-below caps x valid below = record {
  count = below.same_length;
  each = λ i. elim (cases_lt i (length x)) [
    | inl small ↦ (let own : slice_index x i ≤ slice_index caps i = below.each i small in
        let same : length x ≡ length caps = below.same_length in
        let most : slice_index caps i ≤ 65535 = valid.most i (omega arith) in
        omega arith)
    | inr past ↦ (let none : slice_index x i ≡ 0 = get_or_past x i 0 past in omega arith)
  ];
}

length-some : (x : List ℕ) (xs : List (List ℕ)) → In x xs → 1 ≤ length xs
length-some x [] member = absurd member
length-some x (y ∷ ys) member = omega arith

-- the corners of a region are within the capacities, and in order
pub corners-below : (split : ℕ) (caps : List ℕ) (a : Area) → IsKept split caps a → IsBelow (lows a.states) caps × IsBelow (highs a.states) caps × IsBelow (lows a.states) (highs a.states)
corners-below split caps a kept =
    let xs = a.states in
    let z = kept.area.some.0 in
    let here = kept.area.some.1 in
    let lengths : HaveLength (length caps) xs = record { each = λ x member. (kept.area.within x member).same_length } in
    let tight : IsTight xs (lows xs) (highs xs) = corners-tight (length caps) z xs lengths here in
    let inside : IsBetween (lows xs) (highs xs) z = tight.inside z here in (
      below-through (lows xs) z caps inside.low (kept.area.within z here),
      tight-high z xs (lows xs) caps (lows xs) (highs xs) tight here (λ x member. record { low = (tight.inside x member).low; high = kept.area.within x member }),
      below-through (lows xs) z (highs xs) inside.low inside.high,
    )

-- and its region is one of theirs
pub region_of-region : (split : ℕ) (caps : List ℕ) (a : Area) → AreCapacities caps → split ≤ 4096 → IsKept split caps a → IsRegion (length caps) (region_of a)
region_of-region split caps a valid most kept = elim (cases_Bool a.is_split) [
  | inl is ↦ (let few : length a.states ≤ split = kept.few is in
      let own : IsSet (length caps) a.states = record {
        some = length-some kept.area.some.0 a.states kept.area.some.1;
        few = omega arith;
        each = λ x member. state-below caps x valid (kept.area.within x member);
        rising = kept.area.rising;
      } in
      subst (λ (r : LogRegion). IsRegion (length caps) r) (sym (region_of-set a is)) own)
  | inr plain ↦ (let ends = corners-below split caps a kept in
      let own : IsBox (length caps) (corners a.states) = record {
        lo = state-below caps (lows a.states) valid ends.0;
        hi = state-below caps (highs a.states) valid ends.1;
        below = ends.2;
      } in
      subst (λ (r : LogRegion). IsRegion (length caps) r) (sym (region_of-plain a plain)) own)
]

-- A box of many states that is followed by its corners is the region of the run.
use Rattle.std.specs.Prelude.{◌≡◌, ℕ, zero, suc, ◌-◌, ◌+◌, ◌<◌, ◌≤◌, List, [], length, slice_index, slice_index_or, replicate, Bool, refl}
use Rattle.std.proofs.Common.{ap, ap₂, sym, ◌∙◌, subst, take, drop, arith}
use Rattle.std.proofs.Math.Seq.{take-length, drop-length}
use Rattle.std.proofs.lemmas.List.{take-take, length-take-le}
use Rattle.psi_state.specs.State.{Corners, IsBelow, box, zeros}
use Rattle.psi_state.specs.Sets.{image}
use Rattle.psi_state.specs.Hull.{corners}
use Rattle.psi_state.proofs.BoxesLemmas.{below-itself}
use Rattle.psi_state.proofs.StatesLemmas.{zeros-caps}
use Rattle.psi_event.specs.Law.{Function, IsMonotone}
use Rattle.psi_event.proofs.LawLemmas.{monotone-corners}
use Rattle.psi_region.specs.Region.{Area, step}
use Rattle.psi_event.specs.Numbers.{follow_numbers, AreEvents}
use Rattle.psi_event.proofs.NumbersLemmas.{follow_numbers-drop, events-left}
use Rattle.psi_follow_packed.specs.Packed.{packed}
use Rattle.psi_follow_packed.specs.Programs.{Prepared, Prepares}
use Rattle.psi_follow_packed.specs.Packed.{Packing}
use Rattle.psi_follow_packed.specs.Boxes.{AreCorners, AreMonotoneUnhalted, AreFollowed, FollowsBox}
use Rattle.psi_follow_packed.specs.UnitEvents.{Encloses}
use Rattle.psi_region.specs.Followed.{follow_areas, unsplit}
use Rattle.psi_region.proofs.FollowedLemmas.{follow_areas-take}
use Rattle.psi_follow_sets.specs.Sets.{IsPackedBox, IsCornersRun, RunsCorners}
use Rattle.psi_follow_sets.proofs.SetsLemmas.{step-unsplit}

module _ (count : ℕ) (p : Prepared) (caps : List ℕ) (functions : List Function) (numbers : List ℕ) (halts : List Bool) (split : ℕ) (lo hi low high : List ℕ) (place : ℕ)
    (prepared : Prepares count caps functions p) (monotone : AreMonotoneUnhalted caps functions halts)
    (known : (i : ℕ) → i < length numbers → slice_index numbers i < length functions)
    (followed : AreFollowed count p.packing functions numbers halts split lo hi low high place) where
  -- what the numbers from a place on make of the box
  abbrev corners_at : ℕ → Corners
  corners_at i = record { lo = follow_numbers functions (drop i numbers) lo; hi = follow_numbers functions (drop i numbers) hi }

  abbrev end : Area
  end = follow_areas split functions numbers (unsplit (record { lo = lo; hi = hi }))

  -- down to a place the corners are those of a box within the capacities, with the region of the run
  pub record IsSameAt (i : ℕ) : Type 0 where
    pub ordered : IsBelow (corners_at i).lo (corners_at i).hi
    pub within : IsBelow (corners_at i).hi caps
    pub same : follow_areas split functions (take i numbers) (unsplit (corners_at i)) ≡ end

  same-first : IsBelow lo hi → IsBelow hi caps → IsSameAt (length numbers)
  same-first ordered within =
      let none : drop (length numbers) numbers ≡ [] = drop-length numbers in
      record { ordered = rw none ordered; within = rw none within; same = rw (none, take-length numbers) refl }

  same-next : (i : ℕ) → place ≤ i → i < length numbers → IsSameAt (suc i) → IsSameAt i
  same-next i after small is =
      let number = slice_index numbers i in
      let f : Function = slice_index_or functions number (λ z. z) in
      let here : number < length functions = known i small in
      let own : IsMonotone caps f = monotone number here (followed.unhalted i after small) in
      let e : suc i - 1 ≡ i = omega arith in
      let from : (x : List ℕ) → follow_numbers functions (drop i numbers) x ≡ f (follow_numbers functions (drop (suc i) numbers) x) =
      λ x. subst (λ k. follow_numbers functions (drop k numbers) x ≡ slice_index_or functions (slice_index numbers k) (λ z. z) (follow_numbers functions (drop (suc i) numbers) x)) e
      (follow_numbers-drop functions numbers (suc i) x (omega arith) (omega arith)) in
      let before = corners_at (suc i) in
      let made : corners_at i ≡ corners (image f (box before.lo before.hi)) =
      ap₂ (λ (x y : List ℕ). record { lo = x; hi = y }) (from lo) (from hi) ∙ sym (monotone-corners caps f before.lo before.hi own is.ordered is.within) in
      let closed : (x : List ℕ) → IsBelow x caps → IsBelow (f x) caps =
      λ x below. subst (λ (cs : List ℕ). IsBelow (f x) cs) prepared.same_caps
      ((prepared.each number here).closed.each x (subst (λ (cs : List ℕ). IsBelow x cs) (sym prepared.same_caps) below)) in
      record {
        ordered = rw (from lo, from hi) (own.each before.lo before.hi is.within is.ordered);
        within = rw (from hi) (closed before.hi is.within);
        same = subst (λ k. follow_areas split functions (take k numbers) (unsplit (corners_at i)) ≡ end) e
            (follow_areas-take split functions numbers (suc i) (unsplit before) (unsplit (corners_at i)) end (omega arith) (omega arith)
            (subst (λ k. unsplit (corners_at i) ≡ step split (slice_index_or functions (slice_index numbers k) (λ z. z)) (unsplit before)) (sym e)
            (step-unsplit split f before (corners_at i) (followed.many i after small) made)) is.same);
      }

  same-down : (n i : ℕ) → n + i ≡ length numbers → place ≤ i → IsBelow lo hi → IsBelow hi caps → IsSameAt i
  same-down zero i all after ordered within =
      let e : length numbers ≡ i = omega arith in
      subst (λ k. IsSameAt k) e (same-first ordered within)
  same-down (suc n) i all after ordered within =
      same-next i after (omega arith) (same-down n (suc i) (omega arith) (omega arith) ordered within)

  pub followed-same : place ≤ length numbers → IsBelow lo hi → IsBelow hi caps → IsSameAt place
  followed-same few ordered within = same-down (length numbers - place) place (omega arith) (omega arith) ordered within

-- where the words of corners were followed, they are those of such a box
pub boxes-run : (count : ℕ) (p : Prepared) (caps : List ℕ) (functions : List Function) (numbers : List ℕ) (halts : List Bool) (split : ℕ)
    (low high low_after high_after : List ℕ) (place : ℕ) → Prepares count caps functions p → AreMonotoneUnhalted caps functions halts
    → ((i : ℕ) → i < length numbers → slice_index numbers i < length functions) → place ≤ length numbers
    → FollowsBox count p numbers halts split low high low_after high_after place
    → RunsCorners count p.packing functions numbers split low high low_after high_after place
boxes-run count p caps functions numbers halts split low high low_after high_after place prepared monotone known few follows = λ lo hi begun.
    let followed = (follows caps functions lo hi prepared monotone begun).0 in
    let within : IsBelow hi caps = subst (λ (cs : List ℕ). IsBelow hi cs) prepared.same_caps begun.within in
    let is = followed-same count p caps functions numbers halts split lo hi low_after high_after place prepared monotone known followed few begun.ordered within in
    record {
      to = record { lo = follow_numbers functions (drop place numbers) lo; hi = follow_numbers functions (drop place numbers) hi };
      corners = followed.corners;
      left = few;
      same = is.same;
    }

-- a run through the numbers that were left is one through all
pub runs-through : (count : ℕ) (p : Packing) (functions : List Function) (numbers : List ℕ) (split : ℕ) (from : Corners) (low high low_after high_after : List ℕ) (left place : ℕ)
    → IsCornersRun count p functions numbers split from low high left → RunsCorners count p functions (take left numbers) split low high low_after high_after place
    → IsCornersRun count p functions numbers split from low_after high_after place
runs-through count p functions numbers split from low high low_after high_after left place before run =
    let more = run before.to.lo before.to.hi before.corners in
    let long : length (take left numbers) ≡ left = length-take-le left numbers before.left in
    let few : place ≤ left = omega (arith, more.left, long) in
    record {
      to = more.to;
      corners = more.corners;
      left = omega (arith, few, before.left);
      same = ap (λ (ns : List ℕ). follow_areas split functions ns (unsplit more.to)) (sym (take-take place left numbers few)) ∙ more.same ∙ before.same;
    }

-- one number more, whose event makes of a box of many states a tight box
pub runs-over : (count : ℕ) (p : Packing) (functions : List Function) (numbers : List ℕ) (split : ℕ) (from : Corners) (low high low_after high_after : List ℕ) (left : ℕ) → 1 ≤ left
    → (before : IsCornersRun count p functions numbers split from low high left) → split < length (box before.to.lo before.to.hi)
    → Encloses count p (slice_index_or functions (slice_index numbers (left - 1)) (λ x. x)) low high low_after high_after
    → IsCornersRun count p functions numbers split from low_after high_after (left - 1)
runs-over count p functions numbers split from low high low_after high_after left some before many encloses =
    let f : Function = slice_index_or functions (slice_index numbers (left - 1)) (λ x. x) in
    let made = corners (image f (box before.to.lo before.to.hi)) in
    record {
      to = made;
      corners = encloses before.to.lo before.to.hi before.corners;
      left = omega (arith, before.left);
      same = follow_areas-take split functions numbers left (unsplit before.to) (unsplit made) (follow_areas split functions numbers (unsplit from)) some before.left
          (step-unsplit split f before.to made many refl) before.same;
    }

-- a run through the first numbers is one of their events
pub left-run : (count : ℕ) (p : Prepared) (caps : List ℕ) (functions : List Function) (numbers : List ℕ) (halts given : List Bool) (split : ℕ) (low high low_after high_after : List ℕ)
    (left place : ℕ) → Prepares count caps functions p → AreMonotoneUnhalted caps functions halts → given ≡ halts → AreEvents (length functions) numbers → left ≤ length numbers
    → place ≤ length (take left numbers) → FollowsBox count p (take left numbers) given split low high low_after high_after place
    → RunsCorners count p.packing functions (take left numbers) split low high low_after high_after place
left-run count p caps functions numbers halts given split low high low_after high_after left place prepared monotone same events few within follows =
    boxes-run count p caps functions (take left numbers) given split low high low_after high_after place prepared
    (subst (λ (hs : List Bool). AreMonotoneUnhalted caps functions hs) (sym same) monotone)
    (events-left (length functions) (length functions) left numbers events few refl) within follows

-- and leads to a box
pub run-box : (count : ℕ) (p : Packing) (functions : List Function) (numbers : List ℕ) (split : ℕ) (low high low_after high_after : List ℕ) (place : ℕ)
    → RunsCorners count p functions numbers split low high low_after high_after place → IsPackedBox count p low high → IsPackedBox count p low_after high_after
run-box count p functions numbers split low high low_after high_after place run b =
    let end = run b.of.lo b.of.hi b.corners in
    record { of = end.to; corners = end.corners }

-- a run begins before its first event
pub run-none : (count : ℕ) (p : Packing) (functions : List Function) (numbers : List ℕ) (split : ℕ) (low high : List ℕ) → RunsCorners count p functions numbers split low high low high (length numbers)
run-none count p functions numbers split low high = λ lo hi begun. record {
  to = record { lo = lo; hi = hi };
  corners = begun;
  left = omega arith;
  same = ap (λ (ns : List ℕ). follow_areas split functions ns (unsplit (record { lo = lo; hi = hi }))) (take-length numbers);
}

-- the corners of all states
pub whole-corners : (count : ℕ) (p : Packing) (caps made least low high : List ℕ) (n : ℕ) → p.caps ≡ caps → made ≡ caps → n ≡ length made → least ≡ replicate n 0
    → low ≡ packed count p least → high ≡ packed count p made → AreCorners count p low high (zeros caps) caps
whole-corners count p caps made least low high n own same long none is_low is_high =
    let first : least ≡ zeros caps = none ∙ ap (λ k. replicate k 0) (long ∙ ap (λ (l : List ℕ). length l) same) in
    record {
      ordered = zeros-caps caps;
      within = subst (λ (cs : List ℕ). IsBelow caps cs) (sym own) (below-itself caps);
      low = is_low ∙ ap (packed count p) first;
      high = is_high ∙ ap (packed count p) same;
    }

-- A box whose tight boxes come to a single state meets in what becomes of that state.
use Rattle.std.specs.Prelude.{◌≡◌, ℕ, ◌+◌, ◌-◌, ◌<◌, ◌≤◌, List, [], ◌∷◌, length, take, drop, All, Bool, true, false, not, Option, Some, None, refl}
use Rattle.std.proofs.Common.{inl, inr, ap, sym, ◌∙◌, subst, arith, take-append-drop, length-drop}
use Rattle.std.proofs.Math.Seq.{take-length, take-add}
use Rattle.std.proofs.lemmas.Bool.{cases_lt, le-leb, true≢false}
use Rattle.psi_state.specs.State.{Corners, IsBelow, box, zeros}
use Rattle.psi_state.specs.Members.{In}
use Rattle.psi_state.specs.Sets.{image, single}
use Rattle.psi_state.proofs.BoxesLemmas.{In-low, In-high, In-of_box, below-through}
use Rattle.psi_state.proofs.SetsLemmas.{In-image, In-of_image, single-image, single-apart}
use Rattle.psi_state.proofs.AscendingLemmas.{box-rising}
use Rattle.psi_event.specs.Law.{Function, IsClosed}
use Rattle.psi_event.specs.Numbers.{follow_numbers}
use Rattle.psi_event.proofs.NumbersLemmas.{follow_numbers-append}
use Rattle.psi_region.specs.Region.{Area, IsArea, start}
use Rattle.psi_region.specs.Followed.{follow_areas, unsplit}
use Rattle.psi_region.proofs.FollowedLemmas.{follow_areas-has}
use Rattle.psi_follow_packed.specs.Packed.{packed}
use Rattle.psi_follow_packed.specs.Boxes.{AreCorners}
use Rattle.psi_follow_packed.specs.Programs.{Prepared, Prepares, Follows}
use Rattle.psi_follow_packed.proofs.FollowingLemmas.{follow_numbers-within}
use Rattle.psi_follow_sets.specs.Sets.{IsCornersRun}
use Rattle.psi_follow_sets.proofs.SetsLemmas.{follow_areas-image, few-ending, many-ending}

-- a list of at most one member has no other one
few-one : (xs : List (List ℕ)) (x y : List ℕ) → length xs ≤ 1 → In x xs → In y xs → y ≡ x
few-one [] x y few here there = absurd here
few-one (z ∷ []) x y few (inl e) (inl d) = d ∙ sym e
few-one (z ∷ []) x y few (inl e) (inr there) = absurd there
few-one (z ∷ []) x y few (inr here) there = absurd here
few-one (z ∷ w ∷ xs) x y few here there = absurd (omega arith)

pub behind-all : (xs : List ℕ) (stop : ℕ) → take (length xs - stop) (drop stop xs) ≡ drop stop xs
behind-all xs stop = ap (λ n. take n (drop stop xs)) (sym (length-drop stop xs)) ∙ take-length (drop stop xs)

pub behind-few : (xs : List ℕ) (stop place : ℕ) → stop ≤ length xs → place ≤ length (take (length xs - stop) (drop stop xs)) → stop + place ≤ length xs
behind-few xs stop place within few = omega (arith, within, few, ap (λ (ys : List ℕ). length ys) (behind-all xs stop), length-drop stop xs)

module _ (count : ℕ) (p : Prepared) (caps : List ℕ) (functions : List Function) (lo hi low high : List ℕ) (place : ℕ)
    (closed : All (λ f. IsClosed caps f) functions) (ordered : IsBelow lo hi) (within : IsBelow hi caps) where
  begun-area : IsArea caps (unsplit (record { lo = lo; hi = hi }))
  begun-area = record {
    some = (lo, In-low lo hi ordered);
    rising = box-rising lo hi;
    within = λ x member. below-through x hi caps (In-of_box lo hi x member).high within;
  }

  -- where the box comes to one state, what the numbers make of each of its states is what those that are left make of that state
  run-meets : (numbers : List ℕ) (run : IsCornersRun count p.packing functions numbers 1 (record { lo = lo; hi = hi }) low high place) → length (box run.to.lo run.to.hi) ≤ 1
      → (x : List ℕ) → In x (box lo hi) → follow_numbers functions numbers x ≡ follow_numbers functions (take place numbers) run.to.lo
  run-meets numbers run few x member =
      let f = follow_numbers functions (take place numbers) in
      let has : In (follow_numbers functions numbers x) (follow_areas 1 functions numbers (unsplit (record { lo = lo; hi = hi }))).states =
      follow_areas-has 1 caps functions numbers (unsplit (record { lo = lo; hi = hi })) x closed begun-area member in
      let is = follow_areas-image 1 functions (take place numbers) (unsplit run.to) (le-leb (length (box run.to.lo run.to.hi)) 1 few) (box-rising run.to.lo run.to.hi) in
      let there : In (follow_numbers functions numbers x) (image f (box run.to.lo run.to.hi)) =
      subst (λ (xs : List (List ℕ)). In (follow_numbers functions numbers x) xs) (ap (λ (a : Area). a.states) (sym run.same) ∙ is.states) has in
      let from = In-of_image f (follow_numbers functions numbers x) (box run.to.lo run.to.hi) there in
      from.2 ∙ ap f (few-one (box run.to.lo run.to.hi) run.to.lo from.0 few (In-low run.to.lo run.to.hi run.corners.ordered) from.1)

  -- so do all numbers, of which the first ones come after these
  pub box-meets : (numbers : List ℕ) (stop : ℕ) (words : List ℕ) (s : List ℕ)
      → (run : IsCornersRun count p.packing functions (drop stop numbers) 1 (record { lo = lo; hi = hi }) low high place) → length (box run.to.lo run.to.hi) ≤ 1
      → Prepares count caps functions p → Follows count p (take (stop + place) numbers) low words
      → ((t : List ℕ) → IsBelow t p.packing.caps → words ≡ packed count p.packing t → s ≡ t)
      → single (image (follow_numbers functions numbers) (box lo hi)) ≡ Some s
  box-meets numbers stop words s run few prepared follows unpacks =
      let t = run.to.lo in
      let below : IsBelow t caps = subst (λ (cs : List ℕ). IsBelow t cs) prepared.same_caps (below-through t run.to.hi p.packing.caps run.corners.ordered run.corners.within) in
      let end = follow_numbers functions (take (stop + place) numbers) t in
      let inside : IsBelow end p.packing.caps = subst (λ (cs : List ℕ). IsBelow end cs) (sym prepared.same_caps)
      (follow_numbers-within count caps functions p prepared (take (stop + place) numbers) t below) in
      let is : s ≡ end = unpacks end inside (follows caps functions t prepared below run.corners.low) in
      single-image (follow_numbers functions numbers) s lo (box lo hi) (In-low lo hi ordered)
      (λ x member.
      ap (λ (ns : List ℕ). follow_numbers functions ns x) (sym (take-append-drop stop numbers))
      ∙ follow_numbers-append functions (take stop numbers) (drop stop numbers) x
      ∙ ap (follow_numbers functions (take stop numbers)) (run-meets (drop stop numbers) run few x member)
      ∙ sym (follow_numbers-append functions (take stop numbers) (take place (drop stop numbers)) t)
      ∙ ap (λ (ns : List ℕ). follow_numbers functions ns t) (sym (take-add stop place numbers))
      ∙ sym is)

-- what a box tells where it has few states and where it has many
pub record TellsMeeting (split : ℕ) (states : List (List ℕ)) (f : Function) (o : Option (List ℕ)) : Type 0 where
  pub few : length states ≤ split → o ≡ single (image f states)
  pub many : split < length states → o ≡ None

-- so the run ends with the one state
pub told-ending : (split : ℕ) (functions : List Function) (numbers : List ℕ) (left : ℕ) (b : Corners) (caps : List ℕ) (o : Option (List ℕ)) → 1 ≤ split
    → (split < length (box b.lo b.hi) → left ≡ 0)
    → follow_areas split functions (take left numbers) (unsplit b) ≡ follow_areas split functions numbers (unsplit (record { lo = zeros caps; hi = caps }))
    → TellsMeeting split (box b.lo b.hi) (follow_numbers functions (take left numbers)) o → o ≡ single (follow_areas split functions numbers (start caps)).states
told-ending split functions numbers left b caps o some all same told = elim (cases_lt split (length (box b.lo b.hi))) [
  | inl many ↦ told.many many ∙ many-ending split functions numbers left b caps some (all many) many same
  | inr few ↦ few-ending split functions numbers left b (record { lo = zeros caps; hi = caps }) caps o refl few same (told.few few)
]

-- where the words of what the numbers make of two states differ, the states do
pub words-part : (count : ℕ) (p : Prepared) (caps : List ℕ) (functions : List Function) (numbers low high low_after high_after lo hi : List ℕ) → Prepares count caps functions p
    → AreCorners count p.packing low high lo hi → Follows count p numbers low low_after → Follows count p numbers high high_after → (low_after ≡ high_after → ⊥)
    → follow_numbers functions numbers lo ≡ follow_numbers functions numbers hi → ⊥
words-part count p caps functions numbers low high low_after high_after lo hi prepared begun first second apart same =
    let within : (x : List ℕ) → IsBelow x p.packing.caps → IsBelow x caps = λ x below. subst (λ (cs : List ℕ). IsBelow x cs) prepared.same_caps below in
    apart (first caps functions lo prepared (within lo (below-through lo hi p.packing.caps begun.ordered begun.within)) begun.low
    ∙ ap (packed count p.packing) same ∙ sym (second caps functions hi prepared (within hi begun.within) begun.high))

-- where the corners of a box part, its states don't meet
pub part-none : (f : Function) (lo hi : List ℕ) → IsBelow lo hi → (f lo ≡ f hi → ⊥) → single (image f (box lo hi)) ≡ None
part-none f lo hi ordered apart =
    single-apart (image f (box lo hi)) (f lo) (f hi) (In-image f lo (box lo hi) (In-low lo hi ordered)) (In-image f hi (box lo hi) (In-high lo hi ordered)) apart

-- what isn't so, isn't
pub not-both : (told : Bool) → not told ≡ true → told ≡ true → ⊥
not-both true other is = absurd (true≢false (sym other))
not-both false other is = absurd (true≢false (sym is))

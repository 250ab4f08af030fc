-- What a run ends with says where all states have met, and longer runs are within shorter ones.
use Rattle.std.specs.Prelude.{◌≡◌, ℕ, zero, suc, ◌+◌, ◌-◌, ◌^◌, ◌≤◌, List, [], ◌∷◌, length, true, false, nat_le, Some, nat_eq, refl}
use Rattle.std.specs.Cmp.Lexicographic.{pointwise}
use Rattle.std.proofs.Common.{inl, inr, ap, sym, ◌∙◌, subst, arith}
use Rattle.std.proofs.lemmas.Bool.{cases_Bool, le-leb, or_right}
use Rattle.psi_state.specs.declared.Outcome.{Outcome}
use Rattle.psi_state.specs.declared.Outcome.TheVariants.{Met, NotMet}
use Rattle.psi_state.specs.State.{IsBelow, zeros, all_states}
use Rattle.psi_state.specs.Members.{In}
use Rattle.psi_state.specs.Boxes.{IsBetween}
use Rattle.psi_state.proofs.BoxesLemmas.{In-of_all_states, In-all_states, same-from_below, zeros-below, below-itself}
use Rattle.psi_state.specs.Sets.{image, single}
use Rattle.psi_state.proofs.SetsLemmas.{single-each, single-apart}
use Rattle.psi_state.proofs.StatesLemmas.{In-zeros, same-from_eq, apart-from_eq}
use Rattle.psi_state.specs.Ascending.{IsRising}
use Rattle.psi_state.proofs.AscendingLemmas.{image-rising, image-image, image-agree, image-identity, rising-same_each}
use Rattle.psi_rate.specs.Composition.{compose, image_at, AreClosed, AreMonotone, IsReached}
use Rattle.psi_rate.specs.Doubling.{IsLasting}
use Rattle.psi_rate.specs.Outcomes.{meeting_at, IsOutcome, ReachesOutcome}
use Rattle.psi_rate.proofs.CompositionLemmas.{reached-later, corners-meet, corners-apart}
use Rattle.psi_rate.proofs.DoublingLemmas.{lasting-none}
use Rattle.psi_rate.proofs.OutcomesLemmas.{outcome-agree}
use Rattle.psi_region.specs.Region.{Area, start, step, IsArea, IsWithin}
use Rattle.psi_region.proofs.RegionLemmas.{start-area, step-area, step-within, within-start, step-has, step-split}
use Rattle.psi_region.proofs.FollowedLemmas.{step-between}
use Rattle.psi_horizon.specs.Runs.{follow, region_at, ending_at, region_after, AreOrdered, DecidesRuns, AreExact}

pub follow-area : (split : ℕ) (caps : List ℕ) (f : ℕ → List ℕ → List ℕ) (t : ℕ) (a : Area) → AreClosed caps f → IsArea caps a → IsArea caps (follow split f t a)
follow-area split caps f zero a closed is = is
follow-area split caps f (suc t) a closed is =
    follow-area split caps f t (step split (f (suc t)) a) closed (step-area split caps (f (suc t)) a (closed.each (suc t)) is)

pub run-area : (split : ℕ) (caps : List ℕ) (f : ℕ → List ℕ → List ℕ) (t : ℕ) → AreClosed caps f → IsArea caps (region_at split f caps t)
run-area split caps f t closed = follow-area split caps f t (start caps) closed (start-area caps)

follow-within : (split : ℕ) (caps : List ℕ) (f : ℕ → List ℕ → List ℕ) (t : ℕ) (a b : Area) → AreClosed caps f → IsArea caps a → IsArea caps b → IsWithin a b
    → IsWithin (follow split f t a) (follow split f t b)
follow-within split caps f zero a b closed first second within = within
follow-within split caps f (suc t) a b closed first second within =
    let g = f (suc t) in
    let each = closed.each (suc t) in
    follow-within split caps f t (step split g a) (step split g b) closed (step-area split caps g a each first) (step-area split caps g b each second)
    (step-within split caps g a b each first second within)

-- the regions are ordered by horizon
pub run-within : (split : ℕ) (caps : List ℕ) (f : ℕ → List ℕ → List ℕ) → AreClosed caps f → AreOrdered split f caps
run-within split caps f closed = record {
  each = λ t.
      (let g = f (suc t) in
      let first = step-area split caps g (start caps) (closed.each (suc t)) (start-area caps) in
      follow-within split caps f t (step split g (start caps)) (start caps) closed first (start-area caps) (within-start caps (step split g (start caps)) first));
}

-- so a longer run has no state that a shorter one hasn't
pub run-among : (split : ℕ) (caps : List ℕ) (f : ℕ → List ℕ → List ℕ) (t d : ℕ) (x : List ℕ) → AreClosed caps f → In x (region_at split f caps (d + t)).states
    → In x (region_at split f caps t).states
run-among split caps f t zero x closed member = (let e : 0 + t ≡ t = omega arith in subst (λ n. In x (region_at split f caps n).states) e member)
run-among split caps f t (suc d) x closed member =
    let e : suc d + t ≡ suc (d + t) = omega arith in
    let longer : In x (region_at split f caps (suc (d + t))).states = subst (λ n. In x (region_at split f caps n).states) e member in
    run-among split caps f t d x closed (((run-within split caps f closed).each (d + t)).states.each x longer)

-- a run that ends with one state does so at every longer horizon, with the same state
pub met-later : (split : ℕ) (caps : List ℕ) (f : ℕ → List ℕ → List ℕ) (t later : ℕ) (s : List ℕ) → AreClosed caps f → t ≤ later
    → ending_at split f caps t ≡ Some s → (region_at split f caps later).states ≡ s ∷ []
met-later split caps f t later s closed order met =
    let e : (later - t) + t ≡ later = omega arith in
    let area = run-area split caps f later closed in
    rising-same_each (region_at split f caps later).states area.some.0 s area.rising area.some.1
    (λ y member. single-each (region_at split f caps t).states s y met
    (run-among split caps f t (later - t) y closed (subst (λ n. In y (region_at split f caps n).states) (sym e) member)))

-- so the states with which runs end last
pub endings-last : (split : ℕ) (caps : List ℕ) (f : ℕ → List ℕ → List ℕ) → AreClosed caps f → IsLasting (ending_at split f caps)
endings-last split caps f closed = record {
  each = λ t later s order met. ap (λ (xs : List (List ℕ)). single xs) (met-later split caps f t later s closed order met);
}

-- what an outcome says of the runs of all horizons
pub outcome-decides : (split : ℕ) (caps : List ℕ) (f : ℕ → List ℕ → List ℕ) (limit : ℕ) (o : Outcome) → AreClosed caps f
    → IsOutcome (ending_at split f caps) limit o → DecidesRuns split f caps limit o
outcome-decides split caps f limit (Met t s) closed is = λ later order. met-later split caps f t later s closed order is.answer
outcome-decides split caps f limit (NotMet l) closed is = λ t order.
    lasting-none (ending_at split f caps) t (2 ^ limit) (endings-last split caps f closed) order (is.1.each limit (omega arith))

-- a region has what the steps make of each of its states
follow-has : (split : ℕ) (caps : List ℕ) (f : ℕ → List ℕ → List ℕ) (t : ℕ) (a : Area) (x : List ℕ) → AreClosed caps f → IsArea caps a → In x a.states
    → In (compose f t x) (follow split f t a).states
follow-has split caps f zero a x closed is member = member
follow-has split caps f (suc t) a x closed is member =
    let g = f (suc t) in
    let each = closed.each (suc t) in
    follow-has split caps f t (step split g a) (g x) closed (step-area split caps g a each is) (step-has split caps g a x each is member)

pub run-has : (split : ℕ) (caps : List ℕ) (f : ℕ → List ℕ → List ℕ) (t : ℕ) (x : List ℕ) → AreClosed caps f → IsBelow x caps
    → In (compose f t x) (region_at split f caps t).states
run-has split caps f t x closed within = follow-has split caps f t (start caps) x closed (start-area caps) (In-all_states caps x within)

-- so where a run ends with one state, every state that starts there or earlier is in it at time zero
pub ending-reached : (split : ℕ) (caps : List ℕ) (f : ℕ → List ℕ → List ℕ) (t : ℕ) (s : List ℕ) → AreClosed caps f → ending_at split f caps t ≡ Some s
    → IsReached f caps t s
ending-reached split caps f t s closed met = reached-later caps f t s closed
    (λ x within. single-each (region_at split f caps t).states s (compose f t x) met (run-has split caps f t x closed within))

pub outcome-reached : (split : ℕ) (caps : List ℕ) (f : ℕ → List ℕ → List ℕ) (limit : ℕ) (o : Outcome) → AreClosed caps f
    → IsOutcome (ending_at split f caps) limit o → ReachesOutcome f caps o
outcome-reached split caps f limit (Met t s) closed is = ending-reached split caps f t s closed is.answer
outcome-reached split caps f limit (NotMet l) closed is = tt

-- under monotone events a region stays between what they make of two corners
follow-between : (split : ℕ) (caps : List ℕ) (f : ℕ → List ℕ → List ℕ) (t : ℕ) (a : Area) (l h : List ℕ) → AreClosed caps f → AreMonotone caps f → IsArea caps a
    → IsBelow h caps → ((x : List ℕ) → In x a.states → IsBetween l h x)
    → (x : List ℕ) → In x (follow split f t a).states → IsBetween (compose f t l) (compose f t h) x
follow-between split caps f zero a l h closed mono is top each = each
follow-between split caps f (suc t) a l h closed mono is top each =
    let g = f (suc t) in
    let own = closed.each (suc t) in
    follow-between split caps f t (step split g a) (g l) (g h) closed mono (step-area split caps g a own is) (own.each h top)
    (step-between split caps g a l h own (mono.each (suc t)) is top each)

-- under monotone events a run ends with one state exactly where all states have met, whatever the split number is
pub run-monotone : (split : ℕ) (caps : List ℕ) (f : ℕ → List ℕ → List ℕ) (t : ℕ) → AreClosed caps f → AreMonotone caps f
    → ending_at split f caps t ≡ meeting_at f caps t
run-monotone split caps f t closed mono =
    let low = compose f t (zeros caps) in
    let high = compose f t caps in
    let bottom : In low (region_at split f caps t).states =
    run-has split caps f t (zeros caps) closed (In-of_all_states caps (zeros caps) (In-zeros caps)) in
    let top : In high (region_at split f caps t).states = run-has split caps f t caps closed (below-itself caps) in
    let between : (x : List ℕ) → In x (region_at split f caps t).states → IsBetween low high x =
    follow-between split caps f t (start caps) (zeros caps) caps closed mono (start-area caps) (below-itself caps)
    (λ x member. (let within = In-of_all_states caps x member in record { low = zeros-below caps x within.same_length; high = within })) in
    elim (cases_Bool (pointwise nat_eq low high)) [
      | inl tied ↦ (let same : low ≡ high = same-from_eq low high tied in
          let area = run-area split caps f t closed in
          let one : (region_at split f caps t).states ≡ high ∷ [] = rising-same_each (region_at split f caps t).states high high area.rising top
          (λ y member. (let here = between y member in same-from_below y high here.high (subst (λ (z : List ℕ). IsBelow z y) same here.low))) in
          ap (λ (xs : List (List ℕ)). single xs) one ∙ sym (corners-meet caps f t high closed mono same refl))
      | inr untied ↦ (let apart = apart-from_eq low high untied in
          single-apart (region_at split f caps t).states low high bottom top apart ∙ sym (corners-apart caps f t apart))
    ]

pub outcome-monotone : (split : ℕ) (caps : List ℕ) (f : ℕ → List ℕ → List ℕ) (limit : ℕ) (o : Outcome) → AreClosed caps f → AreMonotone caps f
    → IsOutcome (ending_at split f caps) limit o → IsOutcome (meeting_at f caps) limit o
outcome-monotone split caps f limit o closed mono is =
    outcome-agree (ending_at split f caps) (meeting_at f caps) limit o (λ t some. run-monotone split caps f t closed mono) is

abbrev split_area : List (List ℕ) → Area
split_area xs = record { is_split = true; states = xs }

-- a split region is the image of its states
follow-split : (split : ℕ) (f : ℕ → List ℕ → List ℕ) (t : ℕ) (xs : List (List ℕ)) → IsRising xs
    → follow split f t (split_area xs) ≡ split_area (image (compose f t) xs)
follow-split split f zero xs rising =
    ap (λ ys. split_area ys) (sym (image-agree (compose f zero) (λ x. x) xs (λ x member. refl) ∙ image-identity xs rising))
follow-split split f (suc t) xs rising =
    let g = f (suc t) in
    ap (λ (a : Area). follow split f t a) (step-split split g (split_area xs) refl)
    ∙ (follow-split split f t (image g xs) (image-rising g xs)
    ∙ ap (λ ys. split_area ys) (image-image (compose f t) g xs
    ∙ image-agree (λ x. compose f t (g x)) (compose f (suc t)) xs (λ x member. refl)))

-- where there are at most the split number of states, the run is the image of all states from the first step on
pub run-exact : (split : ℕ) (caps : List ℕ) (f : ℕ → List ℕ → List ℕ) (t : ℕ) → length (all_states caps) ≤ split → 1 ≤ t
    → region_at split f caps t ≡ record { is_split = true; states = image_at f caps t }
run-exact split caps f zero few some = absurd (omega arith)
run-exact split caps f (suc t) few some =
    let g = f (suc t) in
    ap (λ (a : Area). follow split f t a) (step-split split g (start caps) (or_right false (nat_le (length (all_states caps)) split) (le-leb (length (all_states caps)) split few)))
    ∙ (follow-split split f t (image g (all_states caps)) (image-rising g (all_states caps))
    ∙ ap (λ ys. split_area ys) (image-image (compose f t) g (all_states caps)
    ∙ image-agree (λ x. compose f t (g x)) (compose f (suc t)) (all_states caps) (λ x member. refl)))

pub outcome-exact : (split : ℕ) (caps : List ℕ) (f : ℕ → List ℕ → List ℕ) (limit : ℕ) (o : Outcome) → length (all_states caps) ≤ split
    → IsOutcome (ending_at split f caps) limit o → IsOutcome (meeting_at f caps) limit o
outcome-exact split caps f limit o few is =
    outcome-agree (ending_at split f caps) (meeting_at f caps) limit o
    (λ t some. ap (λ (a : Area). single a.states) (run-exact split caps f t few some)) is

pub runs-exact : (split : ℕ) (caps : List ℕ) (f : ℕ → List ℕ → List ℕ) → length (all_states caps) ≤ split → AreExact split f caps
runs-exact split caps f few = record { each = λ t some. run-exact split caps f t few some }

-- the regions of a run, one after the other, are regions, and what is left of the steps makes of each the end of the run
pub region_after-area : (split : ℕ) (caps : List ℕ) (f : ℕ → List ℕ → List ℕ) (horizon done : ℕ) → AreClosed caps f
    → IsArea caps (region_after split f caps horizon done)
region_after-area split caps f horizon zero closed = start-area caps
region_after-area split caps f horizon (suc done) closed =
    step-area split caps (f (horizon - done)) (region_after split f caps horizon done) (closed.each (horizon - done))
    (region_after-area split caps f horizon done closed)

region_after-left : (split : ℕ) (caps : List ℕ) (f : ℕ → List ℕ → List ℕ) (horizon done left : ℕ) → done + left ≡ horizon
    → follow split f left (region_after split f caps horizon done) ≡ region_at split f caps horizon
region_after-left split caps f horizon zero left sum = (let e : left ≡ horizon = omega arith in ap (λ n. follow split f n (start caps)) e)
region_after-left split caps f horizon (suc done) left sum =
    let e : horizon - done ≡ suc left = omega arith in
    ap (λ n. follow split f left (step split (f n) (region_after split f caps horizon done))) e
    ∙ region_after-left split caps f horizon done (suc left) (omega arith)

pub region_after-whole : (split : ℕ) (caps : List ℕ) (f : ℕ → List ℕ → List ℕ) (horizon : ℕ) → region_after split f caps horizon horizon ≡ region_at split f caps horizon
region_after-whole split caps f horizon = region_after-left split caps f horizon horizon 0 (omega arith)

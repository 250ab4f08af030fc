-- Answers in the proof of `moved_corners`.
use Rattle.std.proofs.Common.{◌≡◌, ℕ, ◌-◌, ◌≤◌, List, map, length, slice_index, slice_index_or, ap, sym, ◌∙◌, subst, arith}
use Rattle.psi_state.specs.State.{IsBelow, zeros}
use Rattle.psi_event.specs.Numbers.{follow_numbers}
use Rattle.psi_event.proofs.NumbersLemmas.{follow_numbers-take}
use Rattle.psi_region.proofs.corners.moved_corners.Goals as goal

pub loop-place-preserved : goal.loop-place-preserved
loop-place-preserved g c =
    let kept = c.loop-place.invariant in
    let t = c.loop-place.place in
    let numbers = c.args.numbers.now in
    let some : 1 ≤ t = c.loop-place-test.true in
    let within : t ≤ length numbers = omega arith in
    let course = c.args.course.now in
    let functions = map g.E.EventLaw.function course.events in
    let number = slice_index numbers (t - 1) in
    let same = c.event-event.ensures.same_caps in
    let low : c.apply.new.x ≡ slice_index_or functions number (λ x. x) c.loop-place.least =
    c.apply.ensures.value ∙ ap (λ (f : List ℕ → List ℕ). f c.loop-place.least) (sym c.event-event.ensures.function) in
    let high : c.apply-in-loop-place.new.x ≡ slice_index_or functions number (λ x. x) c.loop-place.greatest =
    c.apply-in-loop-place.ensures.value ∙ ap (λ (f : List ℕ → List ℕ). f c.loop-place.greatest) (sym c.event-event.ensures.function) in
    record {
      least_within = subst (λ (caps : List ℕ). IsBelow c.apply.new.x caps) same c.apply.ensures.within;
      greatest_within = subst (λ (caps : List ℕ). IsBelow c.apply-in-loop-place.new.x caps) same c.apply-in-loop-place.ensures.within;
      least_left = follow_numbers-take functions numbers t c.loop-place.least c.apply.new.x (follow_numbers functions numbers (zeros course.caps)) some within low kept.least_left;
      greatest_left = follow_numbers-take functions numbers t c.loop-place.greatest c.apply-in-loop-place.new.x (follow_numbers functions numbers course.caps) some within high kept.greatest_left;
    }

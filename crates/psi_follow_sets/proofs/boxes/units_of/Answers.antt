-- Answers in the proof of `units_of`.
use Rattle.std.proofs.Common.{◌≡◌, ◌<◌, ℕ, List, [], ◌∷◌, ◌++◌, length, map, get_or, slice_index_or, Option, None, IfSome, ap, sym, subst, ◌∙◌, arith}
use Rattle.std.proofs.lemmas.List.{get_or-map, length_push}
use Rattle.psi_event.specs.Law.{Function}
use Rattle.psi_follow_packed.specs.UnitEvents.{IsUnitFor, unit_masks}
use Rattle.psi_follow_packed.specs.declared.unit_events.UnitEvent.{UnitEvent}
use Rattle.psi_region.proofs.FollowedLemmas.{each-pushed}
use Rattle.psi_follow_sets.proofs.boxes.units_of.Goals as goal

pub loop-number-preserved : goal.loop-number-preserved
loop-number-preserved g c =
    let course = c.args.course.now in
    let p = c.args.program.now.packing in
    let number = c.loop-number.number in
    let units = c.loop-number.units.items in
    let more = c.push_reserved.new.self.items in
    let one = c.unit_event.result in
    let event = c.index-events-number.result in
    let functions = map g.E.EventLaw.function course.events in
    let pushed : more ≡ units ++ one ∷ [] = c.push_reserved.ensures.items in
    let read : get_or course.events number event ≡ event = ap (λ (es : List g.row.E.Denot). get_or es number event) (sym c.events-events.ensures.value) ∙ sym c.index-events-number.is in
    let within : number < length course.events = omega (arith, c.loop-number-test.true, ap (λ (es : List g.row.E.Denot). length es) c.events-events.ensures.value) in
    let function : slice_index_or functions number (λ x. x) ≡ g.E.EventLaw.function event = get_or-map g.E.EventLaw.function course.events number event (λ x. x) within ∙ ap g.E.EventLaw.function read in
    record {
      count = omega (arith, ap (λ (us : List (Option (UnitEvent g.row.K))). length us) pushed, length_push units one, c.loop-number.invariant.count);
      room = omega (arith, c.push_reserved.ensures.capacity, c.loop-number.invariant.room);
      known = each-pushed (λ (i : ℕ) (o : Option (UnitEvent g.row.K)). IfSome o (λ unit. IsUnitFor g.row.K p (slice_index_or functions i (λ x. x)) (unit_masks unit))) None units more number one
          c.loop-number.invariant.count pushed c.loop-number.invariant.known
          (subst (λ (f : Function). IfSome one (λ unit. IsUnitFor g.row.K p f (unit_masks unit))) (sym function) c.unit_event.ensures);
    }

-- Answers in the proof of `halts_of`.
use Rattle.std.proofs.Common.{◌≡◌, ◌<◌, ℕ, List, [], ◌∷◌, ◌++◌, length, map, All, get_or, slice_index_or, Bool, false, not, ap, sym, subst, ◌∙◌, arith}
use Rattle.std.proofs.lemmas.List.{get_or-map, length-map, length_push}
use Rattle.std.proofs.lemmas.List.Elements.{All-get_or}
use Rattle.psi_event.specs.Law.{Function, IsMonotone}
use Rattle.psi_follow_sets.proofs.HaltsLemmas.{passed}
use Rattle.psi_region.proofs.FollowedLemmas.{each-pushed}
use Rattle.psi_follow_sets.proofs.boxes.halts_of.Goals as goal

pub loop-number-init : goal.loop-number-init
loop-number-init g c = record {
  count = ap (λ (hs : List Bool). length hs) c.in_ok-halts.ensures.items;
  room = omega (arith, c.in_ok-halts.ensures.capacity);
  monotone = λ i small. absurd (omega arith);
}

pub loop-number-preserved : goal.loop-number-preserved
loop-number-preserved g c =
    let course = c.args.course.now in
    let number = c.loop-number.number in
    let halts = c.loop-number.halts.items in
    let more = c.push_reserved.new.self.items in
    let event = c.index-events-number.result in
    let functions = map g.E.EventLaw.function course.events in
    let pushed : more ≡ halts ++ not c.monotone.result ∷ [] = c.push_reserved.ensures.items in
    let read : get_or course.events number event ≡ event = ap (λ (es : List g.row.E.Denot). get_or es number event) (sym c.events-events.ensures.value) ∙ sym c.index-events-number.is in
    let within : number < length course.events = omega (arith, c.loop-number-test.true, ap (λ (es : List g.row.E.Denot). length es) c.events-events.ensures.value) in
    let caps : g.E.EventLaw.capacities event ≡ course.caps =
    ap g.E.EventLaw.capacities (sym read) ∙ All-get_or (λ e. g.E.EventLaw.capacities e ≡ course.caps) course.events number event within
    (subst (λ (es : List g.row.E.Denot). All (λ e. g.E.EventLaw.capacities e ≡ course.caps) es) c.events-events.ensures.value c.events-events.ensures.same_caps) in
    let function : slice_index_or functions number (λ x. x) ≡ g.E.EventLaw.function event = get_or-map g.E.EventLaw.function course.events number event (λ x. x) within ∙ ap g.E.EventLaw.function read in
    record {
      count = omega (arith, ap (λ (hs : List Bool). length hs) pushed, length_push halts (not c.monotone.result), c.loop-number.invariant.count);
      room = omega (arith, c.push_reserved.ensures.capacity, c.loop-number.invariant.room);
      monotone = each-pushed (λ q h. h ≡ false → IsMonotone course.caps (slice_index_or functions q (λ x. x))) false halts more number (not c.monotone.result) c.loop-number.invariant.count
          pushed c.loop-number.invariant.monotone
          (λ unhalted. subst (λ (f : Function). IsMonotone course.caps f) (sym function)
          (subst (λ (cs : List ℕ). IsMonotone cs (g.E.EventLaw.function event)) caps (c.monotone.ensures.0 (passed c.monotone.result unhalted))));
    }

pub returns-clause-count : goal.returns-clause-count
returns-clause-count g c =
    let same = ap (λ (es : List g.row.E.Denot). length es) c.events-events.ensures.value in
    omega (arith, c.loop-number-test.false, c.loop-number.auto.number-end, c.loop-number.invariant.count, same, length-map c.args.course.now.events g.E.EventLaw.function)

pub returns-clause-monotone : goal.returns-clause-monotone
returns-clause-monotone g c =
    let same = ap (λ (es : List g.row.E.Denot). length es) c.events-events.ensures.value in
    λ i small. c.loop-number.invariant.monotone i (omega (arith, c.loop-number-test.false, same, length-map c.args.course.now.events g.E.EventLaw.function))

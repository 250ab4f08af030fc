-- Answers in the proof of `meeting_of_box`.
use Rattle.std.proofs.Common.{◌≤◌, ◌+◌, ℕ, List, map, length, rules, sym, subst, ◌∙◌, arith}
use Rattle.std.proofs.lemmas.List.{length-take-le}
use Rattle.psi_state.specs.State.{IsBelow}
use Rattle.psi_follow_packed.specs.Views.{low_words, high_words}
use Rattle.psi_follow_sets.specs.Sets.{IsCornersRun}
use Rattle.psi_follow_sets.proofs.MeetingLemmas.{behind-all, behind-few, box-meets}
use Rattle.psi_follow_sets.proofs.sets.meeting_of_box.Goals as goal

pub overflow_add-left : goal.overflow_add-left
overflow_add-left g c =
    let numbers = c.args.numbers.now in
    let stop = c.saturating_sub-stop.result in
    let run = c.follow_until_few.ensures.run c.requires.begun.corners.of.lo c.requires.begun.corners.of.hi c.requires.begun.corners.corners in
    let few : stop + c.follow_until_few.result ≤ length numbers = behind-few numbers stop c.follow_until_few.result (omega (arith, c.saturating_sub-stop.ensures)) run.left in
    search rules

pub slice_bounds-follow-end : goal.slice_bounds-follow-end
slice_bounds-follow-end g c =
    let numbers = c.args.numbers.now in
    let stop = c.saturating_sub-stop.result in
    let run = c.follow_until_few.ensures.run c.requires.begun.corners.of.lo c.requires.begun.corners.of.hi c.requires.begun.corners.corners in
    sym (length-take-le (stop + c.follow_until_few.result) numbers (behind-few numbers stop c.follow_until_few.result (omega (arith, c.saturating_sub-stop.ensures)) run.left))

pub returns : goal.returns
returns g c = λ lo hi begun.
    let course = c.args.course.now in
    let p = c.args.machine.now.program in
    let functions = map g.E.EventLaw.function course.events in
    let numbers = c.args.numbers.now in
    let stop = c.saturating_sub-stop.result in
    let prepared = c.requires.begun.machine.program in
    let low = low_words c.follow_until_few.new.x in
    let high = high_words c.follow_until_few.new.x in
    let run = subst (λ (ns : List ℕ). IsCornersRun g.row.K p.packing functions ns 1 (record { lo = lo; hi = hi }) low high c.follow_until_few.result) (behind-all numbers stop) (c.follow_until_few.ensures.run lo hi begun) in
    let told = c.box_has_at_most.ensures run.to.lo run.to.hi run.corners in
    box-meets g.row.K p course.caps functions lo hi low high c.follow_until_few.result c.requires.closed begun.ordered
    (subst (λ (cs : List ℕ). IsBelow hi cs) prepared.same_caps begun.within) numbers stop (low_words c.follow.new.x) c.unpack_one.result run
    (told.0 c.if-not-box_has_at_most.false) prepared c.follow.ensures.low
    (λ t below same. c.unpack_one.ensures t below (c.low.ensures ∙ same))

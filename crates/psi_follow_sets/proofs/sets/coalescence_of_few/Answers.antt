-- Answers in the proof of `coalescence_of_few`.
use Rattle.std.proofs.Common.{◌≡◌, ◌<◌, ◌≤◌, ap, sym, ◌∙◌, map, length, arith}
use Rattle.psi_state.specs.State.{Corners, box}
use Rattle.psi_state.specs.Sets.{image, single}
use Rattle.psi_event.specs.Numbers.{follow_numbers}
use Rattle.psi_follow_sets.proofs.SetsLemmas.{some-left}
use Rattle.psi_follow_sets.proofs.MeetingLemmas.{part-none}
use Rattle.psi_follow_sets.proofs.sets.coalescence_of_few.Goals as goal

pub returns-in-Some-clause-many : goal.returns-in-Some-clause-many
returns-in-Some-clause-many g c = λ lo hi begun many.
    let b = c.bounds_of-bounds.result in
    let most = c.from.result in
    let counted = some-left c.volume_at_most.result c.in_ok-count.count (most < length (box b.lo b.hi)) (λ count. (count ≡ length (box b.lo b.hi)) × (count ≤ most))
    c.in_ok-count.was c.volume_at_most.ensures in
    absurd (omega (arith, many, counted.0, counted.1, c.from.ensures, c.split.ensures.value, ap (λ (a : Corners). length (box a.lo a.hi)) (c.bounds_of-bounds.ensures lo hi begun)))

pub returns-clause-few : goal.returns-clause-few
returns-clause-few g c = λ lo hi begun few.
    let functions = map g.E.EventLaw.function c.args.course.now.events in
    c.meeting.ensures.meeting c.args.course.now.caps functions c.requires.begun.machine.program
    ∙ ap (λ (b : Corners). single (image (follow_numbers functions c.args.numbers.now) (box b.lo b.hi))) (c.bounds_of-bounds.ensures lo hi begun)

pub returns-then-have_corners_parted-clause-few : goal.returns-then-have_corners_parted-clause-few
returns-then-have_corners_parted-clause-few g c = λ lo hi begun few.
    let functions = map g.E.EventLaw.function c.args.course.now.events in
    sym (part-none (follow_numbers functions c.args.numbers.now) lo hi begun.ordered
    (c.have_corners_parted.ensures c.args.course.now.caps functions lo hi c.requires.begun.machine.program begun c.if-have_corners_parted.true))

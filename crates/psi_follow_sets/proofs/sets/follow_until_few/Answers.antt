-- Answers in the proof of `follow_until_few`.
use Rattle.std.proofs.Common.{◌≡◌, ◌≤◌, ◌<◌, ◌-◌, map, take, length, slice_index, slice_index_or, rules, subst, arith}
use Rattle.std.proofs.lemmas.List.{length-take-le}
use Rattle.psi_state.specs.State.{box}
use Rattle.psi_state.specs.Sets.{image}
use Rattle.psi_state.specs.Hull.{corners}
use Rattle.psi_follow_packed.specs.Views.{low_words, high_words}
use Rattle.psi_follow_packed.proofs.DescendingLemmas.{many-told}
use Rattle.psi_follow_sets.specs.Sets.{RunsCorners}
use Rattle.psi_follow_sets.proofs.BoxesLemmas.{left-run, run-box, run-none, runs-through, runs-over}
use Rattle.psi_follow_sets.proofs.sets.follow_until_few.Goals as goal

pub loop-left-init : goal.loop-left-init
loop-left-init g c = record {
  few = omega arith;
  corners = c.requires.corners;
  run = run-none g.row.K c.args.machine.now.program.packing (map g.E.EventLaw.function c.args.course.now.events) c.args.numbers.now c.args.split (low_words c.args.x.now) (high_words c.args.x.now);
}

pub returns-then-left-eq0-clause-run : goal.returns-then-left-eq0-clause-run
returns-then-left-eq0-clause-run g c = λ lo hi begun.
    let p = c.args.machine.now.program in
    let functions = map g.E.EventLaw.function c.args.course.now.events in
    let after = c.follow_while_many-left in
    let x = c.loop-left.x in
    runs-through g.row.K p.packing functions c.args.numbers.now c.args.split (record { lo = lo; hi = hi }) (low_words x) (high_words x) (low_words after.new.x) (high_words after.new.x)
    c.loop-left.left after.result (c.loop-left.invariant.run lo hi begun)
    (left-run g.row.K p c.args.course.now.caps functions c.args.numbers.now c.args.machine.now.halts.items c.as_slice-halts.result.now c.args.split (low_words x) (high_words x)
    (low_words after.new.x) (high_words after.new.x) c.loop-left.left after.result c.requires.machine.program c.requires.machine.monotone c.as_slice-halts.ensures.value c.requires.events
    c.loop-left.invariant.few after.ensures.left after.ensures.run)

pub enclose_event-requires : goal.enclose_event-requires
enclose_event-requires g c =
    let p = c.args.machine.now.program in
    let functions = map g.E.EventLaw.function c.args.course.now.events in
    let after = c.follow_while_many-left in
    let x = c.loop-left.x in
    let small : after.result ≤ length c.args.numbers.now = omega (arith, after.ensures.left, length-take-le c.loop-left.left c.args.numbers.now c.loop-left.invariant.few, c.loop-left.invariant.few) in
    let number = c.requires.events.each (after.result - 1) (omega (arith, small, c.if-left-eq0.false)) in
    let boxed = run-box g.row.K p.packing functions (take c.loop-left.left c.args.numbers.now) c.args.split (low_words x) (high_words x) (low_words after.new.x) (high_words after.new.x) after.result
    (left-run g.row.K p c.args.course.now.caps functions c.args.numbers.now c.args.machine.now.halts.items c.as_slice-halts.result.now c.args.split (low_words x) (high_words x)
    (low_words after.new.x) (high_words after.new.x) c.loop-left.left after.result c.requires.machine.program c.requires.machine.monotone c.as_slice-halts.ensures.value c.requires.events
    c.loop-left.invariant.few after.ensures.left after.ensures.run) c.loop-left.invariant.corners in
    (search rules, (search rules, (c.requires.machine, (number, boxed))))

pub loop-left-preserved : goal.loop-left-preserved
loop-left-preserved g c =
    let p = c.args.machine.now.program in
    let functions = map g.E.EventLaw.function c.args.course.now.events in
    let numbers = c.args.numbers.now in
    let split = c.args.split in
    let after = c.follow_while_many-left in
    let x = c.loop-left.x in
    let low = low_words after.new.x in
    let high = high_words after.new.x in
    let machine = c.requires.machine in
    let small : after.result ≤ length numbers = omega (arith, after.ensures.left, length-take-le c.loop-left.left numbers c.loop-left.invariant.few, c.loop-left.invariant.few) in
    let run = left-run g.row.K p c.args.course.now.caps functions numbers c.args.machine.now.halts.items c.as_slice-halts.result.now split (low_words x) (high_words x) low high
    c.loop-left.left after.result machine.program machine.monotone c.as_slice-halts.ensures.value c.requires.events c.loop-left.invariant.few after.ensures.left after.ensures.run in
    let b = run-box g.row.K p.packing functions (take c.loop-left.left numbers) split (low_words x) (high_words x) low high after.result run c.loop-left.invariant.corners in
    let f = slice_index_or functions (slice_index numbers (after.result - 1)) (λ z. z) in
    record {
      few = omega (arith, small);
      corners = record { of = corners (image f (box b.of.lo b.of.hi)); corners = c.enclose_event.ensures b.of.lo b.of.hi b.corners };
      run = λ lo hi begun.
          (let before = runs-through g.row.K p.packing functions numbers split (record { lo = lo; hi = hi }) (low_words x) (high_words x) low high c.loop-left.left after.result
          (c.loop-left.invariant.run lo hi begun) run in
          let tells = c.box_has_at_most.ensures before.to.lo before.to.hi before.corners in
          let many : split < length (box before.to.lo before.to.hi) =
          (many-told c.box_has_at_most.result (length (box before.to.lo before.to.hi)) c.args.split tells c.if-box_has_at_most.false) in
          runs-over g.row.K p.packing functions numbers split (record { lo = lo; hi = hi }) low high (low_words c.enclose_event.new.x) (high_words c.enclose_event.new.x) after.result (omega (arith, c.if-left-eq0.false))
          before many c.enclose_event.ensures);
    }

pub returns-clause-run : goal.returns-clause-run
returns-clause-run g c =
    let none : c.loop-left.left ≡ 0 = omega (arith, c.loop-left-test.false) in
    subst (λ n. RunsCorners g.row.K c.args.machine.now.program.packing (map g.E.EventLaw.function c.args.course.now.events) c.args.numbers.now c.args.split
    (low_words c.args.x.now) (high_words c.args.x.now) (low_words c.loop-left.x) (high_words c.loop-left.x) n) none c.loop-left.invariant.run

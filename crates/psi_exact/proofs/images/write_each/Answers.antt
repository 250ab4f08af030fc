-- Answers in the proof of `write_each`.
use Rattle.std.proofs.Common.{◌∙◌, arith}
use Rattle.psi_exact.proofs.WalkLemmas.{In-whole, rank-whole, next-left, none-left, images-next}
use Rattle.psi_exact.proofs.images.write_each.Goals as goal

pub apply-requires : goal.apply-requires
apply-requires g c =
    (next-left (g.E.EventLaw.capacities c.args.e.now) c.loop-state.rank c.in-Some.state c.loop-state.state-iterator c.next.new.self
    c.loop-state.invariant.left c.in-Some.ensures.steps).within

pub rank-requires-clause-member : goal.rank-requires-clause-member
rank-requires-clause-member g c =
    In-whole (g.E.EventLaw.capacities c.args.e.now) c.caps.result c.apply.new.x c.whole-bounds.result c.whole-bounds.ensures c.caps.ensures.value c.apply.ensures.within

pub loop-state-preserved : goal.loop-state-preserved
loop-state-preserved g c =
    let caps = g.E.EventLaw.capacities c.args.e.now in
    let next = next-left caps c.loop-state.rank c.in-Some.state c.loop-state.state-iterator c.next.new.self c.loop-state.invariant.left c.in-Some.ensures.steps in
    let place = rank-whole caps c.caps.result c.apply.new.x c.whole-bounds.result c.rank.result c.whole-bounds.ensures c.caps.ensures.value c.rank.ensures.place in
    record {
      left = next.left;
      done = images-next caps (g.E.EventLaw.function c.args.e.now) c.loop-state.ranks c.loop-state.rank c.rank.result c.in-Some.state c.apply.new.x c.next.new.self next
          c.apply.ensures.value place.rank (c.loop-state.auto.ranks ∙ c.requires.room) c.loop-state.invariant.done;
    }

pub returns : goal.returns
returns g c =
    let caps = g.E.EventLaw.capacities c.args.e.now in
    let past = none-left caps c.loop-state.rank c.loop-state.state-iterator c.loop-state.invariant.left c.in-None.ensures.steps.0 in
    record {
      whole = c.loop-state.auto.ranks ∙ c.requires.room;
      each = λ r small. c.loop-state.invariant.done r (omega arith);
    }

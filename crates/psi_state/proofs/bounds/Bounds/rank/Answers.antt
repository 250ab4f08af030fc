-- Answers in the proof of `Bounds::rank`.
use Rattle.std.specs.Prelude.{◌+◌, ◌-◌, ◌*◌, ◌<◌, length, slice_index, refl}
use Rattle.std.proofs.Common.{arith}
use Rattle.psi_state.specs.State.{box}
use Rattle.psi_state.proofs.CountingLemmas.{ranking-step, ranking-most, ranking-last}
use Rattle.psi_state.proofs.bounds.Bounds.rank.Goals as goal

pub overflow_mul-rank : goal.overflow_mul-rank
overflow_mul-rank c =
    let step = ranking-step c.args.self.now.lo c.args.self.now.hi c.args.x.now c.loop-place.place c.loop-place.rank c.width.result
    (slice_index c.args.x.now c.loop-place.place - slice_index c.args.self.now.lo c.loop-place.place)
    c.len-place-end.ensures.ordered c.requires.member (omega arith) c.width.ensures.value refl c.loop-place.invariant.ranking in
    let small : c.loop-place.rank * c.width.result + (slice_index c.args.x.now c.loop-place.place - slice_index c.args.self.now.lo c.loop-place.place)
    < length (box c.args.self.now.lo c.args.self.now.hi) = step.1 in
    omega arith

pub overflow_add-rank : goal.overflow_add-rank
overflow_add-rank c =
    let step = ranking-step c.args.self.now.lo c.args.self.now.hi c.args.x.now c.loop-place.place c.loop-place.rank c.width.result c.offset.result
    c.len-place-end.ensures.ordered c.requires.member (omega arith) c.width.ensures.value c.offset.ensures c.loop-place.invariant.ranking in
    let small : c.loop-place.rank * c.width.result + c.offset.result < length (box c.args.self.now.lo c.args.self.now.hi) = step.1 in
    omega arith

pub loop-place-preserved : goal.loop-place-preserved
loop-place-preserved c =
    record {
      ranking = (ranking-step c.args.self.now.lo c.args.self.now.hi c.args.x.now c.loop-place.place c.loop-place.rank c.width.result c.offset.result
          c.len-place-end.ensures.ordered c.requires.member (omega arith) c.width.ensures.value c.offset.ensures c.loop-place.invariant.ranking).0;
    }

pub returns-clause-within : goal.returns-clause-within
returns-clause-within c =
    ranking-most c.args.self.now.lo c.args.self.now.hi c.args.x.now c.loop-place.place c.loop-place.rank
    c.len-place-end.ensures.ordered c.requires.member c.loop-place.invariant.ranking

pub returns-clause-place : goal.returns-clause-place
returns-clause-place c =
    ranking-last c.args.self.now.lo c.args.self.now.hi c.args.x.now c.loop-place.place c.loop-place.rank
    c.len-place-end.ensures.ordered c.requires.member (omega arith) c.loop-place.invariant.ranking

-- Answers in the proof of `spread_block`.
use Rattle.std.proofs.Common.{◌≡◌, ◌+◌, ◌*◌, suc, ap, suc-mul, arith}
use Rattle.psi_exact.proofs.SpreadLemmas.{stride-within, spread-next}
use Rattle.psi_exact.proofs.spread.spread_block.Goals as goal

pub raise_stretch-requires-clause-apart : goal.raise_stretch-requires-clause-apart
raise_stretch-requires-clause-apart c =
    (let first = stride-within 0 c.loop-number._number c.args.stride (omega arith) in let at = c.loop-number.invariant.target in omega arith)

pub raise_stretch-requires-clause-within : goal.raise_stretch-requires-clause-within
raise_stretch-requires-clause-within c =
    (let all = stride-within c.loop-number._number c.args.width c.args.stride c.loop-number-test.true in
    let at = c.loop-number.invariant.target in
    let within = c.requires.within in
    let count = c.loop-number.auto.ranks in
    omega arith)

pub overflow_add-target : goal.overflow_add-target
overflow_add-target c =
    (let all = stride-within c.loop-number._number c.args.width c.args.stride c.loop-number-test.true in
    let at = c.loop-number.invariant.target in
    let within = c.requires.within in
    let few = c.requires.few in
    omega arith)

pub loop-number-preserved : goal.loop-number-preserved
loop-number-preserved c = record {
  target =
      (let e : c.loop-number._number + 1 ≡ suc c.loop-number._number = omega arith in
      let next : (c.loop-number._number + 1) * c.args.stride ≡ suc c.loop-number._number * c.args.stride = ap (λ k. k * c.args.stride) e in
      let more = suc-mul c.loop-number._number c.args.stride in
      let at = c.loop-number.invariant.target in
      omega arith);
  done = spread-next c.args.base c.args.stride c.loop-number._number (c.loop-number.target + c.args.stride) c.args.ranks.now c.loop-number.ranks c.raise_stretch.new.ranks
      (omega arith) c.loop-number.invariant.target c.loop-number.invariant.done c.raise_stretch.ensures.each c.raise_stretch.ensures.before c.raise_stretch.ensures.behind;
}

-- Answers in the proof of `put_move`.
use Rattle.std.proofs.Common.{codes, arith}
use Rattle.psi_log_format.proofs.JoinedLemmas.{one_word, moved}
use Rattle.psi_log_format.proofs.MoveLemmas.{told-all, told-last, told-short, place-above, place-within, told-next}
use Rattle.psi_log_format.proofs.regions.put_move.Goals as goal

pub loop-init : goal.loop-init
loop-init c = record {
  next = 0;
  turns = omega arith;
  most = omega arith;
  done = (λ i before. absurd (omega arith));
  rest = (λ i above small. c.apart-left.ensures i);
  text = rw (one_word (codes "move")) c.put-end.ensures;
  short = omega (arith, c.put-end.ensures.place);
}

pub returns-then-left-eq0-clause-text : goal.returns-then-left-eq0-clause-text
returns-then-left-eq0-clause-text c = rw (moved c.args.from.now c.args.to.now) (told-all _ _ _ _ _ _ _ _ c.loop.invariant c.len-end.ensures.few (omega (arith, c.if-left-eq0.true)))

pub returns-then-left-eq0-clause-short : goal.returns-then-left-eq0-clause-short
returns-then-left-eq0-clause-short c = told-short _ _ _ _ _ _ _ _ c.loop.invariant c.len-end.ensures.few

pub put_range-end-requires-clause-queue : goal.put_range-end-requires-clause-queue
put_range-end-requires-clause-queue c =
    let within = place-within _ _ _ _ _ _ _ _ c.loop.invariant c.len-end.ensures.few (λ e. omega (arith, c.if-left-eq0.false)) (omega (arith, c.loop.auto.left-fits)) c.len-end.ensures.ordered c.len-queues.ensures.ordered c.requires.same in
    omega (arith, c.requires.same)

pub put_range-end-requires-clause-room : goal.put_range-end-requires-clause-room
put_range-end-requires-clause-room c =
    let within = place-within _ _ _ _ _ _ _ _ c.loop.invariant c.len-end.ensures.few (λ e. omega (arith, c.if-left-eq0.false)) (omega (arith, c.loop.auto.left-fits)) c.len-end.ensures.ordered c.len-queues.ensures.ordered c.requires.same in
    let above = place-above _ _ _ _ _ _ _ _ c.loop.invariant c.len-end.ensures.few (λ e. omega (arith, c.if-left-eq0.false)) (omega (arith, c.loop.auto.left-fits)) in
    omega (arith, c.loop.invariant.short, c.len-end.ensures.few, c.requires.room, c.loop.auto.out, c.put-end.auto.out)

pub loop-preserved : goal.loop-preserved
loop-preserved c =
    let within = place-within _ _ _ _ _ _ _ _ c.loop.invariant c.len-end.ensures.few (λ e. omega (arith, c.if-left-eq0.false)) (omega (arith, c.loop.auto.left-fits)) c.len-end.ensures.ordered c.len-queues.ensures.ordered c.requires.same in
    told-next _ _ _ _ _ _ _ _ c.loop.invariant c.len-end.ensures.few (λ e. omega (arith, c.if-left-eq0.false)) (omega (arith, c.loop.auto.left-fits)) within c.put_range-end.ensures.text c.put_range-end.ensures.short

pub returns-clause-text : goal.returns-clause-text
returns-clause-text c = rw (moved c.args.from.now c.args.to.now) (told-last _ _ _ _ _ _ _ _ c.loop.invariant c.len-end.ensures.few (omega (arith, c.len-end.ensures.value, c.loop.auto.counter-end, c.loop-test.false)))

pub returns-clause-short : goal.returns-clause-short
returns-clause-short c = told-short _ _ _ _ _ _ _ _ c.loop.invariant c.len-end.ensures.few

use Rattle.std.proofs.Common.{◌≡◌, ◌-◌, ◌<◌, suc, length, ap, sym, subst, ◌∙◌, length-set, slice_set, arith, rules}
use Rattle.psi_follow_packed.specs.Packed.{packed}
use Rattle.psi_follow_packed.specs.Inner.FillingKept.{AreBehind}
use Rattle.psi_follow_packed.proofs.FillingLemmas.{box-some, behind-none, behind-some, spread-fits}
use Rattle.psi_follow_packed.proofs.program.MaskProgram.pack_box.Goals as goal

pub bounds-out-0 : goal.bounds-out-0
bounds-out-0 g c =
    let b = c.args.bounds.now in
    let some = box-some b.lo b.hi c.lo.ensures.ordered in
    omega (arith, some, c.requires.room)

pub loop-queue-init : goal.loop-queue-init
loop-queue-init g c =
    let p = c.args.self.now.packing in
    let b = c.args.bounds.now in
    let out = c.args.out.now in
    let some = box-some b.lo b.hi c.lo.ensures.ordered in
    record {
      behind = subst (λ n. AreBehind p b.lo b.hi n 1 (slice_set out 0 c.pack_one.result)) (sym c.len-queue.ensures.value)
          (behind-none p b.lo b.hi out c.pack_one.result c.lo.ensures.ordered.same_length (omega (arith, some, c.requires.room))
          (c.pack_one.ensures ∙ ap (packed g.row.K p) c.lo.ensures.value));
      room = length-set out 0 c.pack_one.result;
    }

pub spread-count-requires : goal.spread-count-requires
spread-count-requires g c =
    let p = c.args.self.now.packing in
    let b = c.args.bounds.now in
    let out = c.loop-queue.out in
    let kept = c.loop-queue.invariant in
    let place = c.loop-queue.queue - 1 in
    let small : place < length b.lo = omega (arith, c.loop-queue-test.true, c.loop-queue.auto.queue, c.len-queue.ensures.value) in
    let back : c.loop-queue.queue ≡ suc place = omega (arith, c.loop-queue-test.true) in
    let behind : AreBehind p b.lo b.hi (suc place) c.loop-queue.count out = subst (λ n. AreBehind p b.lo b.hi n c.loop-queue.count out) back kept.behind in
    let most = spread-fits b.lo b.hi place c.loop-queue.count c.lo.ensures.ordered small behind.count in
    (omega arith, (search rules, (small, (c.requires.within, (behind, omega (arith, most, kept.room, c.requires.room))))))

pub returns-clause-words : goal.returns-clause-words
returns-clause-words g c =
    let p = c.args.self.now.packing in
    let b = c.args.bounds.now in
    let none : c.loop-queue.queue ≡ 0 = omega arith in
    (subst (λ n. AreBehind p b.lo b.hi n c.loop-queue.count c.loop-queue.out) none c.loop-queue.invariant.behind).words

pub returns-clause-some : goal.returns-clause-some
returns-clause-some g c =
    let b = c.args.bounds.now in
    behind-some c.args.self.now.packing b.lo b.hi c.loop-queue.queue c.loop-queue.count c.loop-queue.out c.lo.ensures.ordered c.loop-queue.invariant.behind

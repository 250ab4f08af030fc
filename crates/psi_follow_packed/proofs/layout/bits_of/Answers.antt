use Rattle.std.proofs.Common.{◌<◌, length, arith}
use Rattle.psi_follow_packed.proofs.BuildingLemmas.{bits-more, own-least}
use Rattle.psi_follow_packed.proofs.layout.bits_of.Goals as goal
use Rattle.psi_follow_packed.proofs.layout.bits_of.Goals.{then-own-bits, else-own-bits}

pub loop-queue-preserved : goal.loop-queue-preserved
loop-queue-preserved c =
    let caps = c.args.caps.now in
    let queue = c.loop-queue.queue in
    let place : queue < length caps = omega arith in
    elim c.if-own-bits.branch [
      | then-own-bits w ↦ (record {
        some = omega arith;
        few = omega arith;
        free = bits-more caps queue c.loop-queue.bits c.if-own-bits.bits c.get.result c.get.type_inv c.get.ensures (omega arith) (omega arith) c.loop-queue.invariant.free;
        least = λ bits two free. omega (arith, own-least c.get.result bits (omega (arith, c.requires.least queue place)) c.get.type_inv two (omega (arith, free queue place)));
      })
      | else-own-bits w ↦ (record {
        some = omega arith;
        few = omega arith;
        free = bits-more caps queue c.loop-queue.bits c.if-own-bits.bits c.get.result c.get.type_inv c.get.ensures (omega arith) (omega arith) c.loop-queue.invariant.free;
        least = λ bits two free. omega (arith, c.loop-queue.invariant.least bits two free);
      })
    ]

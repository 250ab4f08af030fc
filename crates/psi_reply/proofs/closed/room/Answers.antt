-- Answers in the proof of `closed::room`.
use Rattle.std.proofs.Common.{arith}
use Rattle.psi_reply.proofs.ClosingLemmas.{room-more}
use Rattle.psi_reply.proofs.closed.room.Goals as goal

pub loop-i-preserved : goal.loop-i-preserved
loop-i-preserved c = record {
  sum = room-more c.args.net.now c.loop-i.i c.loop-i.room c.capacity.result c.loop-i.invariant.sum c.capacity.ensures;
  most = omega arith;
}

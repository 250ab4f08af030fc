-- Answers in the proof of `push_state`.
use Rattle.std.proofs.Common.{arith}
use Rattle.psi_reply.proofs.ListingLemmas.{state_text_pushed}
use Rattle.psi_reply.proofs.pieces.push_state.Goals as goal

pub loop-queue-preserved : goal.loop-queue-preserved
loop-queue-preserved c =
    let pushed = rw c.get-in-loop-queue.ensures at c.in_ok-push_further.ensures in
    state_text_pushed _ _ _ c.args.state.now c.loop-queue.queue (omega arith) (omega arith) c.loop-queue.invariant pushed

-- Answers in the proof of `row_list::is_below`.
use Rattle.std.proofs.Common.{arith}
use Rattle.psi_state.proofs.ComparingLemmas.{below-next}
use Rattle.psi_log_format.proofs.row_list.is_below.Goals as goal

pub loop-queue-preserved : goal.loop-queue-preserved
loop-queue-preserved c =
    below-next c.args.row.now c.args.most.now c.loop-queue.above c.saturating_sub-above.result c.loop-queue.queue
    (omega (arith, c.get.ensures, c.saturating_sub-above.ensures)) c.loop-queue.invariant

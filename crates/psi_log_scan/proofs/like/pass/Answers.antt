-- Answers in the proof of `like::pass`.
use Rattle.std.proofs.Common.{arith}
use Rattle.psi_log_scan.proofs.RowsLemmas.{front_longer}
use Rattle.psi_log_scan.proofs.like.pass.Goals as goal

pub loop-queue-preserved : goal.loop-queue-preserved
loop-queue-preserved c =
    let queue = c.loop-queue.queue in
    let longer = front_longer c.args.row.now queue (omega arith) in
    record { value = omega arith; room = omega arith; few = omega arith }

-- Answers in the proof of `runs::front_len`.
use Rattle.std.proofs.Common.{sym, arith}
use Rattle.psi_log_scan.proofs.RowsLemmas.{front_short, front_longer}
use Rattle.psi_log_scan.proofs.runs.front_len.Goals as goal

pub loop-place-init : goal.loop-place-init
loop-place-init c = record { value = sym (front_short c.args.row.now); few = omega arith }

pub loop-place-preserved : goal.loop-place-preserved
loop-place-preserved c =
    let place = c.loop-place.place in
    let longer = front_longer c.args.row.now place (omega arith) in
    record { value = omega arith; few = omega arith }

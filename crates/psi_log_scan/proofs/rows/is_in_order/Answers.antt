-- Answers in the proof of `rows::is_in_order`.
use Rattle.std.proofs.Common.{◌-◌, arith}
use Rattle.psi_log_scan.proofs.RowsLemmas.{below_last}
use Rattle.psi_log_scan.proofs.rows.is_in_order.Goals as goal

pub returns : goal.returns
returns c = λ holds more.
    (let count = c.len-count.ensures in
    below_last c.args.states.now.states (c.len-count.result - 2) c.is_below_next.result (omega arith) c.is_below_next.ensures holds)

-- Answers in the proof of `runs::put_first`.
use Rattle.std.proofs.Common.{◌∙◌, arith}
use Rattle.psi_log_scan.proofs.GatheredLemmas.{front_put}
use Rattle.psi_log_scan.proofs.runs.put_first.Goals as goal

pub returns-else-count-gt8 : goal.returns-else-count-gt8
returns-else-count-gt8 c =
    front_put c.args.numbers.now c.copy_from_slice-else-count-gt8.new.self c.args.row.now _ c.args.filled c.args.count (c.copy_from_slice-else-count-gt8.ensures.after ∙ c.eight-own.ensures)
    (omega (arith, c.told-numbers)) c.if-count-gt8.false (omega (arith, c.told-row))

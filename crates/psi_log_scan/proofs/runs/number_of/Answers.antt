-- Answers in the proof of `runs::number_of`.
use Rattle.std.proofs.Common.{◌+◌, arith}
use Rattle.psi_log_scan.proofs.RunLemmas.{two_stand}
use Rattle.psi_log_scan.proofs.runs.number_of.Goals as goal

pub returns : goal.returns
returns c =
    two_stand c.args.text.now c.args.at (c.args.at + c.args.width) c.in_ok-first.first c.in_ok-second.second (omega arith) (omega arith)
    c.in_ok-first.ensures.value c.in_ok-second.ensures.value c.in_ok-first.ensures.small c.in_ok-second.ensures.small (omega arith)

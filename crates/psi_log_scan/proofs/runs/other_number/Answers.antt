-- Answers in the proof of `runs::other_number`.
use Rattle.std.proofs.Common.{◌+◌, arith}
use Rattle.psi_log_scan.proofs.RunLemmas.{one_stands}
use Rattle.psi_log_scan.proofs.runs.other_number.Goals as goal

pub returns : goal.returns
returns c =
    one_stands c.args.text.now c.args.at (c.args.at + c.args.width) c.in_ok-first.first (omega arith) (omega arith) c.in_ok-first.ensures.value c.in_ok-first.ensures.small

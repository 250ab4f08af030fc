-- Answers in the proof of `scan::small_with_comma`.
use Rattle.std.proofs.Common.{arith}
use Rattle.psi_log_scan.proofs.ScanLemmas.{one_with_comma, two_with_comma}
use Rattle.psi_log_scan.proofs.scan.small_with_comma.Goals as goal

pub returns-then-text-at-eq44-clause-there : goal.returns-then-text-at-eq44-clause-there
returns-then-text-at-eq44-clause-there c =
    one_with_comma c.args.text.now c.args.at c.in_ok-first.first (omega arith) c.in_ok-first.ensures.value c.in_ok-first.ensures.small c.if-text-at-eq44.true

pub returns-then-text-at-eq44-2-clause-there : goal.returns-then-text-at-eq44-2-clause-there
returns-then-text-at-eq44-2-clause-there c =
    two_with_comma c.args.text.now c.args.at c.in_ok-first.first c.in_ok-second.second (omega arith) c.in_ok-first.ensures.value c.in_ok-first.ensures.small c.if-first-ge1.true
    c.in_ok-second.ensures.value c.in_ok-second.ensures.small c.if-text-at-eq44-2.true

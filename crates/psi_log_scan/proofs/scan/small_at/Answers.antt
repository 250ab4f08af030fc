-- Answers in the proof of `scan::small_at`.
use Rattle.std.proofs.Common.{◌+◌}
use Rattle.psi_log_scan.proofs.ScanLemmas.{two_digits}
use Rattle.psi_log_scan.proofs.scan.small_at.Goals as goal

pub returns-then-is_none-clause-there : goal.returns-then-is_none-clause-there
returns-then-is_none-clause-there c =
    two_digits c.args.text.now c.args.at (c.args.at + 1) (c.args.at + 1 + 1) c.in_ok-first.first c.in-Some.second c.if-first-ge1.true c.in_ok-first.ensures.small c.in-Some.ensures.small
    c.in_ok-first.ensures.there c.in-Some.ensures.there

-- The counts before it may come.
use Rattle.std.proofs.Common.{◌≡◌, drop, None}
use Rattle.psi_report_reader.specs.Sound.{horizons_flaw}
use Rattle.psi_report_reader.proofs.judging.horizons_flaw.Given as goal

abbrev pub invariant-loop-place : goal.invariant-loop-place
invariant-loop-place l = horizons_flaw l.place l.last l.left (drop l.place l.counts) ≡ horizons_flaw 0 None l.met l.counts

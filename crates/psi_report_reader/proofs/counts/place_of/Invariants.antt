-- No count before it has as high a horizon.
use Rattle.std.proofs.Common.{◌≡◌, ◌+◌, drop}
use Rattle.psi_report_reader.specs.Counts.{place_of}
use Rattle.psi_report_reader.proofs.counts.place_of.Given as goal

abbrev pub invariant-loop-place : goal.invariant-loop-place
invariant-loop-place l = l.place + place_of l.horizon (drop l.place l.counts) ≡ place_of l.horizon l.counts

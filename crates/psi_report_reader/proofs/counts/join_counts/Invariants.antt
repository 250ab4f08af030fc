-- The counts after the place are added.
use Rattle.std.proofs.Common.{◌≡◌, ◌-◌, length, take}
use Rattle.psi_report_reader.specs.Counts.{joined_counts}
use Rattle.psi_report_reader.proofs.counts.join_counts.Given as goal

abbrev pub invariant-loop-place : goal.invariant-loop-place
invariant-loop-place l = joined_counts (take (length l.own - l.place) l.own) l.counts.items ≡ joined_counts l.own l.fn.counts.items

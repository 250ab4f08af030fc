-- The sums before it are alike.
use Rattle.std.proofs.Common.{◌≡◌, drop}
use Rattle.psi_report_reader.specs.Merging.{difference}
use Rattle.psi_report_reader.proofs.figures.difference.Given as goal

abbrev pub invariant-loop-place : goal.invariant-loop-place
invariant-loop-place l = difference l.place (drop l.place l.sums) (drop l.place l.others) ≡ difference 0 l.sums l.others

-- The sums before it are taken.
use Rattle.std.proofs.Common.{◌≡◌, take}
use Rattle.psi_report_reader.specs.Merging.{sums_of}
use Rattle.psi_report_reader.proofs.figures.sums_of.Given as goal

abbrev pub invariant-loop-figure : goal.invariant-loop-figure
invariant-loop-figure l = l.sums.items ≡ sums_of (take l.figure-index l.figures)

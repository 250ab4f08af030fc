-- The figures before it fit.
use Rattle.std.proofs.Common.{◌≡◌, drop}
use Rattle.psi_report_reader.specs.Merging.{large_figure}
use Rattle.psi_report_reader.proofs.figures.large_figure.Given as goal

abbrev pub invariant-loop-place : goal.invariant-loop-place
invariant-loop-place l = large_figure l.place (drop l.place l.figures) ≡ large_figure 0 l.figures

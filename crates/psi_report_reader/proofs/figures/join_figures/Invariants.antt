-- The figures before it are joined, and fit.
use Rattle.std.proofs.Common.{◌≡◌, take, drop}
use Rattle.psi_report.specs.Joined.{paired}
use Rattle.psi_report_reader.specs.Merging.{joined_figure, large_figure}
use Rattle.psi_report_reader.proofs.figures.join_figures.Given as goal

abbrev pub invariant-loop-place : goal.invariant-loop-place
invariant-loop-place l = record {
  joined : l.both.items ≡ paired joined_figure l.fn.figures.items (take l.place l.others);
  fits : large_figure l.place (drop l.place (paired joined_figure l.fn.figures.items l.others)) ≡ large_figure 0 (paired joined_figure l.fn.figures.items l.others);
}

-- The figures before it may stand there.
use Rattle.std.proofs.Common.{◌≡◌, ◌-◌, take, drop, slice_index_or}
use Rattle.psi_report_reader.specs.Sound.{flaw_behind, figures_flaw}
use Rattle.psi_report_reader.proofs.JudgeLemmas.{none}
use Rattle.psi_report_reader.proofs.figure_order.figures_flaw.Given as goal

abbrev pub invariant-loop-place : goal.invariant-loop-place
invariant-loop-place l = flaw_behind l.met (take l.place l.figures) (slice_index_or l.figures (l.place - 1) none) (drop l.place l.figures) ≡ figures_flaw l.met l.figures

-- Answers in the proof of `table::push_figures`.
use Rattle.std.proofs.Common.{subst, arith}
use Rattle.psi_report.specs.Inner.RecordsKept.{Holds}
use Rattle.psi_report.specs.Text.{figure_row}
use Rattle.psi_report.proofs.RowLemmas.{rows_none, rows_more}
use Rattle.psi_report.proofs.table.push_figures.Goals as goal

pub loop-figure-init : goal.loop-figure-init
loop-figure-init c = λ rows held. subst (Holds c.args.table.now) (rows_none figure_row rows c.args.figures.now) held

pub loop-figure-preserved : goal.loop-figure-preserved
loop-figure-preserved c = λ rows held. subst (Holds c.push_figure.new.table) (rows_more figure_row rows c.args.figures.now c.loop-figure.figure-index c.figure-item.result (omega arith) c.figure-item.is)
    (c.in_ok-push_figure.ensures _ (c.loop-figure.invariant rows held))

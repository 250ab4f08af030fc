-- Answers in the proof of `table::push_horizons`.
use Rattle.std.proofs.Common.{subst, arith}
use Rattle.psi_report.specs.Inner.RecordsKept.{Holds}
use Rattle.psi_report.specs.Text.{count_row}
use Rattle.psi_report.proofs.RowLemmas.{rows_none, rows_next}
use Rattle.psi_report.proofs.table.push_horizons.Goals as goal

pub loop-count-init : goal.loop-count-init
loop-count-init c = λ rows held. subst (Holds c.args.table.now) (rows_none count_row rows c.args.counts.now) held

pub loop-count-preserved : goal.loop-count-preserved
loop-count-preserved c = λ rows held. subst (Holds c.push_horizon.new.table) (rows_next count_row rows c.args.counts.now c.loop-count.count-index _ (omega arith))
    (c.in_ok-push_horizon.ensures _ (c.loop-count.invariant rows held))

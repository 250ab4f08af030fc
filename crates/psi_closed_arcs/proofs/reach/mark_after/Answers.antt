-- Answers in the proof of `mark_after`.
use Rattle.std.proofs.Common.{◌+◌, [], arith}
use Rattle.psi_closed_arcs.proofs.RowsLemmas.{read-default}
use Rattle.psi_closed_arcs.proofs.MarkedLemmas.{ahead-previous}
use Rattle.psi_closed_arcs.proofs.reach.mark_after.Goals as goal

pub loop-level-init : goal.loop-level-init
loop-level-init c =
    record { low = c.requires.stretch.low_stop; high = c.requires.stretch.stop_high; marked = c.requires.begin }

pub loop-level-preserved : goal.loop-level-preserved
loop-level-preserved c =
    let of = c.args.of.now in
    let few = c.requires.stretch.sized.few in
    record {
      low = omega arith;
      high = omega arith;
      marked = ahead-previous of.arcs c.args.rule.now of.levels of.total c.requires.stretch.sized.ranged c.requires.stretch.sized.small c.args.stretch.high c.loop-level.level c.window.result c.loop-level.marks
          _ c.marks_before-left.result (omega arith) c.loop-level.invariant.high (omega arith) (omega arith)
          (read-default c.loop-level.marks (c.loop-level.level + 1) (record { words = [] }) (omega arith)) c.window.ensures c.marks_before-left.ensures c.loop-level.invariant.marked;
    }

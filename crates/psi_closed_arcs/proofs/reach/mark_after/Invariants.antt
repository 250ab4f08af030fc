-- Invariants of the loops of `mark_after`.
use Rattle.std.proofs.Common.{◌≤◌}
use Rattle.psi_closed_arcs.specs.Held.{Listed}
use Rattle.psi_closed_arcs.specs.Joining.{Only}
use Rattle.psi_closed_arcs.specs.Windows.{Allows, MarkAfter}
use Rattle.psi_closed_arcs.proofs.reach.mark_after.Given as goal

abbrev pub invariant-loop-level : goal.invariant-loop-level
invariant-loop-level l = record {
  low : l.stretch.low ≤ l.level;
  high : l.level ≤ l.stretch.high;
  marked : MarkAfter (Listed l.of.arcs) (Only (Listed l.of.arcs) (Allows l.rule)) l.of.levels l.of.total l.level l.stretch.high l.marks;
}

abbrev pub decreases-loop-level : goal.decreases-loop-level
decreases-loop-level l = l.level

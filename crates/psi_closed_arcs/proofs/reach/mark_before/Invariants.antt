-- Invariants of the loops of `mark_before`.
use Rattle.psi_closed_arcs.specs.Held.{Listed}
use Rattle.psi_closed_arcs.specs.Joining.{Only}
use Rattle.psi_closed_arcs.specs.Windows.{Allows, MarkBefore}
use Rattle.psi_closed_arcs.proofs.reach.mark_before.Given as goal

abbrev pub invariant-loop-level : goal.invariant-loop-level
invariant-loop-level l = MarkBefore (Listed l.of.arcs) (Only (Listed l.of.arcs) (Allows l.rule)) l.fn.stretch.low l.level l.marks

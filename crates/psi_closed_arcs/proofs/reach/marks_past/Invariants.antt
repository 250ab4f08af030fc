-- Invariants of the loops of `marks_past`.
use Rattle.std.proofs.Common.{◌≡◌, ◌<◌, ◌↔◌, ℕ, true}
use Rattle.psi_closed_arcs.specs.Sums.{has}
use Rattle.psi_closed_arcs.specs.Windows.{EntersBelow}
use Rattle.psi_closed_arcs.proofs.reach.marks_past.Given as goal

abbrev pub invariant-loop-before : goal.invariant-loop-before
invariant-loop-before l = (t : ℕ) → t < 320 → (has l.past t ≡ true) ↔ EntersBelow l.of.arcs l.level t l.window l.marks l.before

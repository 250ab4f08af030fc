-- Invariants of the loops of `marks_before`.
use Rattle.std.proofs.Common.{◌≡◌, ◌<◌, ◌↔◌, ℕ, true}
use Rattle.psi_closed_arcs.specs.Sums.{has}
use Rattle.psi_closed_arcs.specs.Windows.{Exits}
use Rattle.psi_closed_arcs.proofs.reach.marks_before.Given as goal

abbrev pub invariant-loop-before : goal.invariant-loop-before
invariant-loop-before l = (s : ℕ) → s < 320 → (has l.left s ≡ true) ↔ (Exits l.of.arcs l.level s l.window l.marks × (s < l.before))

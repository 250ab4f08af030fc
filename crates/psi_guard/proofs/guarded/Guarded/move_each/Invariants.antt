-- Invariants of the loops of `Guarded::move_each`.
use Rattle.psi_guard.proofs.StepsLemmas.{AreMoved}
use Rattle.psi_guard.proofs.guarded.Guarded.move_each.Given as goal

abbrev pub invariant-loop-i : goal.invariant-loop-i
invariant-loop-i l = AreMoved l.self.parts l.initial.x l.i l.x

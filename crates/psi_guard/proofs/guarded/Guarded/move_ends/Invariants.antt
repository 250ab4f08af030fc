-- Invariants of the loops of `Guarded::move_ends`.
use Rattle.psi_guard.proofs.IntervalsLemmas.{AreEnding}
use Rattle.psi_guard.proofs.guarded.Guarded.move_ends.Given as goal

abbrev pub invariant-loop-i : goal.invariant-loop-i
invariant-loop-i l = AreEnding l.self.parts l.initial.b.lo l.initial.b.hi l.moves l.leaving l.i l.b.lo l.b.hi

-- Invariants of the loops of `Guarded::leaving`.
use Rattle.psi_guard.proofs.IntervalsLemmas.{KnowsParts}
use Rattle.psi_guard.proofs.guarded.Guarded.leaving.Given as goal

abbrev pub invariant-loop-i : goal.invariant-loop-i
invariant-loop-i l = KnowsParts l.self.parts l.b.lo l.b.hi l.i l.leaving

-- Invariants of the loops of `Guarded::is_told`.
use Rattle.psi_guard.proofs.TellingLemmas.{IsTelling}
use Rattle.psi_guard.proofs.guarded.Guarded.is_told.Given as goal

abbrev pub invariant-loop-queue : goal.invariant-loop-queue
invariant-loop-queue l = IsTelling l.self.caps l.self.parts l.queue l.is_one_clipped

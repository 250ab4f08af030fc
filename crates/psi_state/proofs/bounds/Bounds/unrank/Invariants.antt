-- Invariants of the loops of `Bounds::unrank`.
use Rattle.psi_state.proofs.CountingLemmas.{IsUnranking}
use Rattle.psi_state.proofs.bounds.Bounds.unrank.Given as goal

abbrev pub invariant-loop-place : goal.invariant-loop-place
invariant-loop-place l = record { unranking : IsUnranking l.self.lo l.self.hi l.x l.place l.left l.r }

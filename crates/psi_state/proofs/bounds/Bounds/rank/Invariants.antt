-- Invariants of the loops of `Bounds::rank`.
use Rattle.psi_state.proofs.CountingLemmas.{IsRanking}
use Rattle.psi_state.proofs.bounds.Bounds.rank.Given as goal

abbrev pub invariant-loop-place : goal.invariant-loop-place
invariant-loop-place l = record { ranking : IsRanking l.self.lo l.self.hi l.x l.place l.rank }

-- Invariants of the loops of `following`.
use Rattle.psi_state.proofs.OdometerLemmas.{IsTurned}
use Rattle.psi_state.proofs.states.following.Given as goal

abbrev pub invariant-loop-place : goal.invariant-loop-place
invariant-loop-place l = record { turned : IsTurned l.bounds.lo l.bounds.hi l.x l.next l.place }

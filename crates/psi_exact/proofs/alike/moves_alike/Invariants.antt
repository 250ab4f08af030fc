-- Invariants of the loops of `moves_alike`.
use Rattle.std.proofs.Common.{ℕ, List}
use Rattle.psi_exact.specs.Alike.{IsOneMove}
use Rattle.psi_exact.proofs.VisitsLemmas.{AreVisited}
use Rattle.psi_exact.proofs.alike.moves_alike.Given as goal

abbrev pub invariant-loop-state : goal.invariant-loop-state
invariant-loop-state g l = record {
  visited : AreVisited l.span (λ (x : List ℕ). IsOneMove (g.E.EventLaw.capacities l.e) (g.E.EventLaw.function l.e) l.span x) l.state-iterator;
}

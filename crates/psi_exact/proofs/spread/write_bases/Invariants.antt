-- Invariants of the loops of `write_bases`.
use Rattle.std.proofs.Common.{ℕ, List}
use Rattle.psi_exact.specs.Alike.{IsRight}
use Rattle.psi_exact.proofs.VisitsLemmas.{AreVisited}
use Rattle.psi_exact.proofs.spread.write_bases.Given as goal

abbrev pub invariant-loop-state : goal.invariant-loop-state
invariant-loop-state g l = record {
  visited : AreVisited l.span (λ (x : List ℕ). IsRight (g.E.EventLaw.capacities l.e) (g.E.EventLaw.function l.e) l.ranks x) l.state-iterator;
}

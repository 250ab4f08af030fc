-- Invariants of the loops of `spread_queue`.
use Rattle.std.proofs.Common.{ℕ, ◌+◌, List}
use Rattle.psi_exact.specs.Alike.{AreFilled}
use Rattle.psi_exact.proofs.SpreadLemmas.{HasRight}
use Rattle.psi_exact.proofs.VisitsLemmas.{AreVisited}
use Rattle.psi_exact.proofs.spread.spread_queue.Given as goal

-- the states whose first numbers were visited are right, and so are those that were
abbrev pub invariant-loop-state : goal.invariant-loop-state
invariant-loop-state g l = record {
  visited : AreVisited l.front (λ (y : List ℕ). HasRight (g.E.EventLaw.capacities l.e) (g.E.EventLaw.function l.e) l.span l.place l.ranks y) l.state-iterator;
  filled : AreFilled (g.E.EventLaw.capacities l.e) (g.E.EventLaw.function l.e) l.span (l.place + 1) l.ranks;
}

-- Invariants of the loops of `Arcs::fill_queue`.
use Rattle.std.proofs.Common.{◌≡◌, ◌+◌, ◌≤◌}
use Rattle.psi_closed_arcs.proofs.PuttingLemmas.{IsPut}
use Rattle.psi_closed_arcs.proofs.arcs.Arcs.fill_queue.Given as goal

abbrev pub invariant-loop-before : goal.invariant-loop-before
invariant-loop-before l = record {
  levels : l.self.levels ≡ l.fn.self.levels;
  total : l.self.total ≡ l.fn.self.total;
  done : IsPut l.level (λ s v. (v ≤ l.most) × (s + v ≤ l.fn.self.total)) l.fn.self.arcs l.self.arcs 0 l.before;
}

-- Invariants of the loops of `Arcs::keep_level`.
use Rattle.std.proofs.Common.{◌≡◌}
use Rattle.psi_closed_arcs.specs.Held.{Listed}
use Rattle.psi_closed_arcs.specs.Inner.MarksKept.{Keeps}
use Rattle.psi_closed_arcs.proofs.PuttingLemmas.{IsPut}
use Rattle.psi_closed_arcs.proofs.arcs.Arcs.keep_level.Given as goal

abbrev pub invariant-loop-before : goal.invariant-loop-before
invariant-loop-before l = record {
  levels : l.self.levels ≡ l.fn.self.levels;
  total : l.self.total ≡ l.fn.self.total;
  done : IsPut l.level (λ s v. Keeps (Listed l.fn.self.arcs) l.marks l.level s v) l.fn.self.arcs l.self.arcs 0 l.before;
}

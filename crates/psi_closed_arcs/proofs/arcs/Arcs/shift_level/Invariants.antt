-- Invariants of the loops of `Arcs::shift_level`.
use Rattle.std.proofs.Common.{◌≡◌}
use Rattle.psi_closed_arcs.specs.Held.{Listed}
use Rattle.psi_closed_arcs.specs.Inner.MarksKept.{Gives}
use Rattle.psi_closed_arcs.proofs.PuttingLemmas.{IsPut}
use Rattle.psi_closed_arcs.proofs.arcs.Arcs.shift_level.Given as goal

abbrev pub invariant-loop-before : goal.invariant-loop-before
invariant-loop-before l = record {
  levels : l.self.levels ≡ l.fn.self.levels;
  total : l.self.total ≡ l.fn.self.total;
  done : IsPut l.level (λ s v. Gives (Listed l.fn.self.arcs) l.fn.reach l.from l.to l.level s v) l.fn.self.arcs l.self.arcs l.initial.before l.before;
}

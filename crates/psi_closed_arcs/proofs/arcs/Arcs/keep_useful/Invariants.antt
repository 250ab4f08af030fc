-- Invariants of the loops of `Arcs::keep_useful`.
use Rattle.std.proofs.Common.{◌≡◌}
use Rattle.psi_closed_arcs.specs.Walks.{Useful}
use Rattle.psi_closed_arcs.specs.Held.{Listed}
use Rattle.psi_closed_arcs.proofs.PuttingLemmas.{AreDone}
use Rattle.psi_closed_arcs.proofs.arcs.Arcs.keep_useful.Given as goal

abbrev pub invariant-loop-level : goal.invariant-loop-level
invariant-loop-level l = record {
  levels : l.self.levels ≡ l.fn.self.levels;
  total : l.self.total ≡ l.fn.self.total;
  done : AreDone 0 (Useful (Listed l.fn.self.arcs) l.fn.self.levels l.fn.self.total) l.fn.self.arcs l.self.arcs l.level;
}

-- Invariants of the loops of `Arcs::fill`.
use Rattle.std.proofs.Common.{◌≡◌}
use Rattle.psi_closed_arcs.specs.Held.{IsAny}
use Rattle.psi_closed_arcs.proofs.PuttingLemmas.{AreDone}
use Rattle.psi_closed_arcs.proofs.arcs.Arcs.fill.Given as goal

abbrev pub invariant-loop-level : goal.invariant-loop-level
invariant-loop-level l = record {
  levels : l.self.levels ≡ l.fn.self.levels;
  total : l.self.total ≡ l.fn.self.total;
  done : AreDone 0 (IsAny l.caps l.fn.self.total) l.fn.self.arcs l.self.arcs l.level;
}

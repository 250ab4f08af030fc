-- Invariants of the loops of `Arcs::step`.
use Rattle.std.proofs.Common.{◌≡◌, min, max}
use Rattle.psi_closed_arcs.specs.Held.{Listed}
use Rattle.psi_closed_arcs.specs.Joining.{IsChanging, IsShort, IsFull, Joined}
use Rattle.psi_closed_arcs.specs.Inner.MarksKept.{TellsUseful}
use Rattle.psi_closed_arcs.specs.Inner.SpansKept.{AreSpans}
use Rattle.psi_closed_arcs.proofs.PuttingLemmas.{AreDone}
use Rattle.psi_closed_arcs.proofs.arcs.Arcs.step.Given as goal

abbrev pub invariant-loop-level : goal.invariant-loop-level
invariant-loop-level l = record {
  levels : l.self.levels ≡ l.fn.self.levels;
  total : l.self.total ≡ l.fn.self.total;
  changing : TellsUseful (Listed l.fn.self.arcs) l.fn.self.levels l.fn.self.total (min l.from l.to) (max l.from l.to) (IsChanging l.from l.k l.to l.room) l.reach.changing;
  short : TellsUseful (Listed l.fn.self.arcs) l.fn.self.levels l.fn.self.total (min l.from l.to) (max l.from l.to) (IsShort l.from l.k) l.reach.short;
  full : TellsUseful (Listed l.fn.self.arcs) l.fn.self.levels l.fn.self.total (min l.from l.to) (max l.from l.to) (IsFull l.to l.room) l.reach.full;
  spans : AreSpans l.fn.self.arcs l.fn.self.total (min l.from l.to) (max l.from l.to) l.reach.spans.items;
  done : AreDone (min l.from l.to) (Joined (Listed l.fn.self.arcs) l.fn.self.levels l.fn.self.total l.from l.k l.to l.room) l.fn.self.arcs l.self.arcs l.level;
}

-- A step is walked for each word up to this one.
use Rattle.std.proofs.Common.{◌+◌, ◌-◌}
use Rattle.psi_path_table.specs.Inner.VisitsKept.{AreVisits}
use Rattle.psi_path_table.proofs.visits.Visits.follow.Given as goal

abbrev pub invariant-loop-word : goal.invariant-loop-word
invariant-loop-word g l = AreVisits g.trail (g.trail.steps - l.fn.self.left + l.word-index) l.rank l.counts

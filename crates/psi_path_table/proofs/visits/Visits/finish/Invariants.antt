-- Window by window, fewer steps are left.
use Rattle.std.proofs.Common.{◌≡◌, length}
use Rattle.psi_path_table.specs.Inner.VisitsKept.{VisitsStand}
use Rattle.psi_path_table.proofs.visits.Visits.finish.Given as goal

abbrev pub ghost-follow : goal.ghost-follow
ghost-follow g a = g.trail

abbrev pub invariant-loop-self : goal.invariant-loop-self
invariant-loop-self g l = record {
  stands : VisitsStand g.trail l.self;
  words : g.P.Past.words l.past ≡ g.P.Past.words l.fn.past;
  states : l.self.states ≡ l.fn.self.states;
  next : l.self.next ≡ l.fn.self.next;
  counted : length l.self.counts.items ≡ length l.fn.self.counts.items;
}

abbrev pub decreases-loop-self : goal.decreases-loop-self
decreases-loop-self g l = l.self.left

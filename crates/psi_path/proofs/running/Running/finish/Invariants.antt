-- Window by window, fewer steps are left.
use Rattle.std.proofs.Common.{◌≡◌}
use Rattle.psi_path.specs.Path.{path_of}
use Rattle.psi_path.specs.Running.{StandsAt}
use Rattle.psi_path.proofs.running.Running.finish.Given as goal

abbrev pub ghost-follow : goal.ghost-follow
ghost-follow g a = g.course

abbrev pub invariant-loop-self : goal.invariant-loop-self
invariant-loop-self g l = record {
  stands : StandsAt l.system.caps (g.R.Rewards.worths l.rewards) (path_of g.E.EventLaw.function l.system g.course.words g.course.start) g.course.steps l.self;
  words : g.P.Past.words l.past ≡ g.P.Past.words l.fn.past;
}

abbrev pub decreases-loop-self : goal.decreases-loop-self
decreases-loop-self g l = l.self.left

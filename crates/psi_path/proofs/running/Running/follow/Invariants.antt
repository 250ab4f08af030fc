-- A step is walked for each word up to this one.
use Rattle.std.proofs.Common.{◌≡◌, ◌+◌}
use Rattle.psi_path.specs.Path.{path_of}
use Rattle.psi_path.specs.Running.{StandsAt}
use Rattle.psi_path.proofs.running.Running.follow.Given as goal

abbrev pub ghost-step : goal.ghost-step
ghost-step g a = g.course

abbrev pub invariant-loop-word : goal.invariant-loop-word
invariant-loop-word g l = record {
  left : l.self.left + l.word-index ≡ l.fn.self.left;
  stands : StandsAt l.system.caps (g.R.Rewards.worths l.rewards) (path_of g.E.EventLaw.function l.system g.course.words g.course.start) g.course.steps l.self;
}

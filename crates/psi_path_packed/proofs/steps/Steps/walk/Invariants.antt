-- Window by window, fewer steps are left.
use Rattle.std.proofs.Common.{◌≡◌}
use Rattle.psi_path_packed.specs.Counts.{StepsStand}
use Rattle.psi_path_packed.proofs.steps.Steps.walk.Given as goal

abbrev pub ghost-follow : goal.ghost-follow
ghost-follow g a = g.course

abbrev pub invariant-loop-self : goal.invariant-loop-self
invariant-loop-self g l = record {
  stands : StepsStand g.course l.self;
  moves : l.self.moves ≡ l.fn.self.moves;
  words : g.P.Past.words l.past ≡ g.P.Past.words l.fn.past;
}

abbrev pub decreases-loop-self : goal.decreases-loop-self
decreases-loop-self g l = l.self.left

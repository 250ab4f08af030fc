-- The states of the ranks up to this one are added.
use Rattle.std.proofs.Common.{◌≡◌}
use Rattle.psi_path_table.specs.Trail.{left_until}
use Rattle.psi_path_table.specs.Inner.SumsKept.{AreSumsBelow}
use Rattle.psi_path_table.proofs.visits.Visits.add_states.Given as goal

abbrev pub ghost-visits_of : goal.ghost-visits_of
ghost-visits_of g a = g.trail

abbrev pub invariant-loop-rank : goal.invariant-loop-rank
invariant-loop-rank g l = record {
  sums : AreSumsBelow l.caps (g.R.Rewards.worths l.rewards) (λ r. left_until g.trail r g.trail.steps) l.rank l.walk;
  chosen : l.walk.chosen ≡ l.fn.walk.chosen;
  changed : l.walk.changed ≡ l.fn.walk.changed;
}

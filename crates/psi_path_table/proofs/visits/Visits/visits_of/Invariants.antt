-- The visits by the events up to this one.
use Rattle.std.proofs.Common.{◌≡◌, ◌*◌, ◌≤◌, ◌^◌}
use Rattle.psi_path_table.specs.Trail.{visits_until}
use Rattle.psi_path_table.specs.Inner.SumsKept.{sum_below}
use Rattle.psi_path_table.proofs.visits.Visits.visits_of.Given as goal

abbrev pub invariant-loop-row : goal.invariant-loop-row
invariant-loop-row g l = record {
  sum : l.sum ≡ sum_below (λ e. visits_until g.trail e l.rank g.trail.steps) l.row;
  few : l.sum ≤ l.row * 2 ^ 32;
}

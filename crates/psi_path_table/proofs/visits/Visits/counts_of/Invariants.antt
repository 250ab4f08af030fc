-- The counts in the states up to this one.
use Rattle.std.proofs.Common.{◌≡◌, ◌*◌, ◌≤◌, ◌^◌}
use Rattle.std.specs.Prelude.{if◌then◌else◌}
use Rattle.psi_path_table.specs.Trail.{visits_until, is_same}
use Rattle.psi_path_table.specs.Inner.SumsKept.{sum_below}
use Rattle.psi_path_table.proofs.visits.Visits.counts_of.Given as goal

abbrev pub invariant-loop-rank : goal.invariant-loop-rank
invariant-loop-rank g l = record {
  chosen : l.chosen ≡ sum_below (λ r. visits_until g.trail l.event r g.trail.steps) l.rank;
  changed : l.changed ≡ sum_below (λ r. visits_until g.trail l.event r g.trail.steps * (if is_same g.trail l.event r then 0 else 1)) l.rank;
  few : l.chosen ≤ l.rank * 2 ^ 32;
  also_few : l.changed ≤ l.rank * 2 ^ 32;
}

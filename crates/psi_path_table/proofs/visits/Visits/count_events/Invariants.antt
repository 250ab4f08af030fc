-- The counts of the events up to this one are written.
use Rattle.std.proofs.Common.{◌≡◌, ℕ, ◌<◌, ◌*◌, length, slice_index}
use Rattle.std.specs.Prelude.{if◌then◌else◌}
use Rattle.psi_path_table.specs.Trail.{visits_until, is_same}
use Rattle.psi_path_table.specs.Inner.SumsKept.{sum_below}
use Rattle.psi_path_table.proofs.visits.Visits.count_events.Given as goal

abbrev pub ghost-counts_of : goal.ghost-counts_of
ghost-counts_of g a = g.trail

abbrev pub invariant-loop-event : goal.invariant-loop-event
invariant-loop-event g l = record {
  chosen : (e : ℕ) → e < l.event → slice_index l.walk.chosen e ≡ sum_below (λ r. visits_until g.trail e r g.trail.steps) g.trail.states;
  changed : (e : ℕ) → e < l.event → slice_index l.walk.changed e ≡ sum_below (λ r. visits_until g.trail e r g.trail.steps * (if is_same g.trail e r then 0 else 1)) g.trail.states;
  chosen_count : length l.walk.chosen ≡ length l.fn.walk.chosen;
  changed_count : length l.walk.changed ≡ length l.fn.walk.changed;
  queues : l.walk.queues ≡ l.fn.walk.queues;
  rewards : l.walk.rewards ≡ l.fn.walk.rewards;
}

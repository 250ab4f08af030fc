-- The counts of one event more are written.
use Rattle.std.specs.Prelude.{◌≡◌, ◌*◌, if◌then◌else◌, length, slice_index}
use Rattle.std.proofs.Common.{ap, ◌∙◌, arith}
use Rattle.std.proofs.lemmas.List.{length-set}
use Rattle.psi_path.specs.Sums.{Sums}
use Rattle.psi_path.proofs.SetLemmas.{set_below}
use Rattle.psi_path_table.specs.Trail.{visits_until, is_same}
use Rattle.psi_path_table.specs.Inner.SumsKept.{sum_below}
use Rattle.psi_path_table.proofs.visits.Visits.count_events.Goals as goal

pub loop-event-preserved : goal.loop-event-preserved
loop-event-preserved g c =
    let walk = c.loop-event.walk in
    let event = c.loop-event.event in
    let invariant = c.loop-event.invariant in
    let rows = c.requires.0.on.rows in
    let test = c.loop-event-test.true in
    let chosen = c.requires.1.1.1.0 in
    let changed = c.requires.1.1.1.1 in
    let own = invariant.chosen_count in
    let own_changed = invariant.changed_count in
    record {
      chosen = λ e small. ap (λ (s : Sums). slice_index s.chosen e) c.count.ensures
          ∙ set_below (λ k v. v ≡ sum_below (λ r. visits_until g.trail k r g.trail.steps) g.trail.states) walk.chosen event c.counts_of-chosen.result.0 0 (omega arith) invariant.chosen
          c.counts_of-chosen.ensures.chosen e small;
      changed = λ e small. ap (λ (s : Sums). slice_index s.changed e) c.count.ensures
          ∙ set_below (λ k v. v ≡ sum_below (λ r. visits_until g.trail k r g.trail.steps * (if is_same g.trail k r then 0 else 1)) g.trail.states) walk.changed event c.counts_of-chosen.result.1 0
          (omega arith) invariant.changed c.counts_of-chosen.ensures.changed e small;
      chosen_count = ap (λ (s : Sums). length s.chosen) c.count.ensures ∙ length-set walk.chosen event c.counts_of-chosen.result.0 ∙ own;
      changed_count = ap (λ (s : Sums). length s.changed) c.count.ensures ∙ length-set walk.changed event c.counts_of-chosen.result.1 ∙ own_changed;
      queues = ap (λ (s : Sums). s.queues) c.count.ensures ∙ invariant.queues;
      rewards = ap (λ (s : Sums). s.rewards) c.count.ensures ∙ invariant.rewards;
    }

-- The counts of the events before this one are written.
use Rattle.std.proofs.Common.{◌≡◌, ℕ, ◌<◌, length, map, slice_index}
use Rattle.psi_follow_packed.specs.Views.{high_word}
use Rattle.psi_path_packed.proofs.totals.put_counts.Given as goal

abbrev pub invariant-loop-e : goal.invariant-loop-e
invariant-loop-e l = record {
  chosen_count : length l.walk.chosen ≡ length l.fn.walk.chosen;
  changed_count : length l.walk.changed ≡ length l.fn.walk.changed;
  chosen : (k : ℕ) → k < l.e → slice_index l.walk.chosen k ≡ slice_index l.chosen k;
  changed : (k : ℕ) → k < l.e → slice_index l.walk.changed k ≡ slice_index (map high_word l.changes) k;
  queues : l.walk.queues ≡ l.fn.walk.queues;
  rewards : l.walk.rewards ≡ l.fn.walk.rewards;
}

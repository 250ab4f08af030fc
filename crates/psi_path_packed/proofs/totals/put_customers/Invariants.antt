-- The sums of the queues before this one are written.
use Rattle.std.proofs.Common.{◌≡◌, ℕ, ◌-◌, ◌<◌, pos, length, map, slice_index}
use Rattle.psi_follow_packed.specs.Views.{low_word}
use Rattle.psi_path_packed.specs.Rises.{total_of}
use Rattle.psi_path_packed.specs.Walker.{rise_of}
use Rattle.psi_path_packed.proofs.totals.put_customers.Given as goal

abbrev pub invariant-loop-q : goal.invariant-loop-q
invariant-loop-q l = record {
  count : length l.walk.queues ≡ length l.fn.walk.queues;
  sums : (k : ℕ) → k < l.q → pos (slice_index l.walk.queues k)
      ≡ total_of (pos (slice_index l.start k)) l.steps (rise_of l.rises (length l.start) k) (slice_index (map low_word l.changes)) (length l.changes - 1);
  rewards : l.walk.rewards ≡ l.fn.walk.rewards;
  chosen : l.walk.chosen ≡ l.fn.walk.chosen;
  changed : l.walk.changed ≡ l.fn.walk.changed;
}

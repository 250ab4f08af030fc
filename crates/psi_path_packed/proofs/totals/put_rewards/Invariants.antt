-- The sums of the rewards before this one are written.
use Rattle.std.proofs.Common.{◌≡◌, ℕ, ◌-◌, ◌<◌, pos, length, map, slice_index, slice_index_or}
use Rattle.psi_follow_packed.specs.Views.{low_word}
use Rattle.psi_path.specs.Sums.{worth_at}
use Rattle.psi_path_packed.specs.Rises.{total_of}
use Rattle.psi_path_packed.specs.Walker.{rise_of}
use Rattle.psi_path_packed.proofs.totals.put_rewards.Given as goal

abbrev pub invariant-loop-r : goal.invariant-loop-r
invariant-loop-r g l = record {
  count : length l.walk.rewards ≡ length l.fn.walk.rewards;
  sums : (k : ℕ) → k < l.r → slice_index_or l.walk.rewards k (pos 0)
      ≡ total_of (worth_at (g.R.Rewards.worths l.rewards) k l.start) l.steps (rise_of l.rises (length (g.R.Rewards.worths l.rewards)) k) (slice_index (map low_word l.changes)) (length l.changes - 1);
  queues : l.walk.queues ≡ l.fn.walk.queues;
  chosen : l.walk.chosen ≡ l.fn.walk.chosen;
  changed : l.walk.changed ≡ l.fn.walk.changed;
}

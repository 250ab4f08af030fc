-- The sums of the rewards up to this one are turned.
use Rattle.std.proofs.Common.{◌≡◌, ℕ, ◌<◌, ◌≤◌, ◌^◌, pos, length, slice_index_or}
use Rattle.std.specs.Int.RustNames.{unsigned_abs}
use Rattle.std.specs.Prelude.{◌+ℤ◌, ◌-ℤ◌, ◌*ℤ◌}
use Rattle.psi_path.specs.Sums.{worth_at}
use Rattle.psi_path.proofs.turning.turn_rewards.Given as goal

abbrev pub invariant-loop-r : goal.invariant-loop-r
invariant-loop-r g l = record {
  sized : length l.sums.items ≡ length l.fn.sums.items;
  valued : length l.values.items ≡ length l.fn.values.items;
  turned : (k : ℕ) → k < l.r → slice_index_or l.sums.items k (pos 0)
      ≡ slice_index_or l.fn.sums.items k (pos 0) +ℤ (pos l.left *ℤ (worth_at (g.R.Rewards.worths l.rewards) k l.state -ℤ slice_index_or l.fn.values.items k (pos 0)));
  present : (k : ℕ) → k < l.r → slice_index_or l.values.items k (pos 0) ≡ worth_at (g.R.Rewards.worths l.rewards) k l.state;
  small : (k : ℕ) → k < l.r → unsigned_abs (worth_at (g.R.Rewards.worths l.rewards) k l.state) ≤ 2 ^ 63;
  kept : (k : ℕ) → l.r ≤ k → slice_index_or l.sums.items k (pos 0) ≡ slice_index_or l.fn.sums.items k (pos 0);
  kept_values : (k : ℕ) → l.r ≤ k → slice_index_or l.values.items k (pos 0) ≡ slice_index_or l.fn.values.items k (pos 0);
}

-- The rises of the rewards before this one stand after those that were there.
use Rattle.std.proofs.Common.{ℕ, ◌<◌, ◌≤◌, ◌^◌, ◌-ℤ◌}
use Rattle.std.specs.Int.RustNames.{unsigned_abs}
use Rattle.psi_path.specs.Additive.{IsAdditive}
use Rattle.psi_path.specs.Sums.{worth_at}
use Rattle.psi_path_packed.specs.Inner.RisesKept.{IsLonger}
use Rattle.psi_path_packed.proofs.rises.push_values.Given as goal

abbrev pub invariant-loop-r : goal.invariant-loop-r
invariant-loop-r g l = record {
  longer : IsLonger l.fn.rises.items l.r (λ r. worth_at (g.R.Rewards.worths l.rewards) r l.change.ups -ℤ worth_at (g.R.Rewards.worths l.rewards) r l.change.downs) l.rises.items;
  additive : (k : ℕ) → k < l.r → IsAdditive (g.R.Rewards.capacities l.rewards) (worth_at (g.R.Rewards.worths l.rewards) k);
  small : (k : ℕ) → k < l.r → unsigned_abs (worth_at (g.R.Rewards.worths l.rewards) k l.change.ups -ℤ worth_at (g.R.Rewards.worths l.rewards) k l.change.downs) ≤ 2 ^ 40;
}

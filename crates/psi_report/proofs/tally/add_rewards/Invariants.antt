-- The summaries up to the reward have become those with its value.
use Rattle.std.proofs.Common.{◌≡◌, ℕ, ◌+◌, take}
use Rattle.psi_report.specs.Joined.{paired, with_reward, AreSmall}
use Rattle.psi_report.proofs.tally.add_rewards.Given as goal

abbrev pub invariant-loop-r : goal.invariant-loop-r
invariant-loop-r l = record {
  values : l.rewards.items ≡ paired (with_reward l.count l.state) l.fn.rewards.items (take l.r l.net.rewards);
  small : (n : ℕ) → AreSmall n l.fn.rewards.items → AreSmall (n + 1) l.rewards.items;
}

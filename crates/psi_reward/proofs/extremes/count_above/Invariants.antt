-- Invariants of the loops of `count_above`.
use Rattle.std.proofs.Common.{◌≡◌, ◌+◌, ◌≤◌, length, drop, count_by, nat_lt}
use Rattle.psi_reward.specs.Held.{held}
use Rattle.psi_reward.proofs.extremes.count_above.Given as goal

abbrev pub invariant-loop-place : goal.invariant-loop-place
invariant-loop-place l = record {
  value : l.count ≡ count_by (λ v. nat_lt l.level v) (held (drop l.place l.queues) l.x);
  few : l.count + l.place ≤ length l.queues;
}

-- Invariants of the loops of `weighted_sum`.
use Rattle.std.proofs.Common.{◌≡◌, ◌+◌, ◌*◌, ◌≤◌, unsigned_abs, length, map, drop}
use Rattle.psi_reward.specs.Held.{held}
use Rattle.psi_reward.specs.Sums.{weighted, added}
use Rattle.psi_reward.proofs.sums.weighted_sum.Given as goal

abbrev pub invariant-loop-place : goal.invariant-loop-place
invariant-loop-place l = record {
  value : l.sum ≡ added (map weighted (drop l.place l.weights)) (held (drop l.place l.queues) l.x);
  few : unsigned_abs l.sum + l.place * 65535000000000 ≤ length l.queues * 65535000000000;
}

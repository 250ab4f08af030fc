-- Invariants of the loops of `table_sum`.
use Rattle.std.proofs.Common.{◌≡◌, ◌+◌, ◌*◌, ◌≤◌, unsigned_abs, length, map, drop}
use Rattle.psi_reward.specs.Held.{held}
use Rattle.psi_reward.specs.Sums.{entry, added}
use Rattle.psi_reward.proofs.sums.table_sum.Given as goal

abbrev pub invariant-loop-place : goal.invariant-loop-place
invariant-loop-place l = record {
  value : l.sum ≡ added (map entry (drop l.place l.table)) (held (drop l.place l.queues) l.x);
  few : unsigned_abs l.sum + l.place * 4294967296 ≤ length l.queues * 4294967296;
}

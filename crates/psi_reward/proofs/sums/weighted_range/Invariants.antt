-- Invariants of the loops of `weighted_range`.
use Rattle.std.proofs.Common.{◌+◌, ◌*◌, ◌≤◌, unsigned_abs, length, map, drop}
use Rattle.psi_reward.specs.Held.{held}
use Rattle.psi_reward.specs.Sums.{weighted, added}
use Rattle.psi_reward.specs.Spans.{IsSpread}
use Rattle.psi_reward.proofs.sums.weighted_range.Given as goal

abbrev pub invariant-loop-place : goal.invariant-loop-place
invariant-loop-place l = record {
  least_few : unsigned_abs l.least + l.place * 65535000000000 ≤ length l.queues * 65535000000000;
  greatest_few : unsigned_abs l.greatest + l.place * 65535000000000 ≤ length l.queues * 65535000000000;
  spread : IsSpread (added (map weighted (drop l.place l.weights))) (held (drop l.place l.queues) l.lo) (held (drop l.place l.queues) l.hi) l.least l.greatest;
}

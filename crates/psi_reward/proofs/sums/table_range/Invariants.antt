-- Invariants of the loops of `table_range`.
use Rattle.std.proofs.Common.{◌+◌, ◌*◌, ◌≤◌, unsigned_abs, length, map, drop}
use Rattle.psi_reward.specs.Held.{held}
use Rattle.psi_reward.specs.Sums.{entry, added}
use Rattle.psi_reward.specs.Spans.{IsSpread}
use Rattle.psi_reward.proofs.sums.table_range.Given as goal

abbrev pub invariant-loop-place : goal.invariant-loop-place
invariant-loop-place l = record {
  spread : IsSpread (added (map entry (drop l.place l.table))) (held (drop l.place l.queues) l.lo) (held (drop l.place l.queues) l.hi) l.least l.greatest;
  least_few : unsigned_abs l.least + l.place * 4294967296 ≤ length l.queues * 4294967296;
  greatest_few : unsigned_abs l.greatest + l.place * 4294967296 ≤ length l.queues * 4294967296;
}

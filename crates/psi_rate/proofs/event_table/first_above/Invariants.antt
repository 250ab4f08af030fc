-- Invariants of the loops of `first_above`.
use Rattle.std.proofs.Common.{ℕ, ◌<◌, ◌≤◌, length, get_or}
use Rattle.psi_rate.proofs.event_table.first_above.Given as goal

abbrev pub invariant-loop-event : goal.invariant-loop-event
invariant-loop-event l = record {
  place : l.event ≤ length l.totals;
  below : (k : ℕ) → k < l.event → get_or l.totals k 0 ≤ l.number;
}

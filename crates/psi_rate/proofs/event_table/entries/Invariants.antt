-- Invariants of the loops of `entries`.
use Rattle.std.proofs.Common.{ℕ, ◌*◌, ◌^◌, ◌<◌, ◌≤◌, length, get_or, vec_capacity}
use Rattle.psi_rate.specs.Inner.EventTableKept.{AreFirstAbove}
use Rattle.psi_rate.proofs.event_table.entries.Given as goal

abbrev pub invariant-loop-event : goal.invariant-loop-event
invariant-loop-event l = record {
  room : l.count ≤ vec_capacity l.entries;
  most : length l.entries.items ≤ l.count;
  below : (k : ℕ) → k < l.event → get_or l.totals k 0 ≤ length l.entries.items * 2 ^ l.shift;
  first : AreFirstAbove l.totals l.shift l.entries.items;
}

-- Invariants of the loops of `fill`.
use Rattle.std.proofs.Common.{◌≡◌, ◌-◌, ◌≤◌, ◌++◌, length, max, replicate, vec_len, vec_capacity}
use Rattle.psi_rate.proofs.event_table.fill.Given as goal

abbrev pub invariant-loop : goal.invariant-loop
invariant-loop l = record {
  items : l.entries.items ≡ l.fn.entries.items ++ replicate (l.counter - length l.fn.entries.items) l.event;
  len : vec_len l.entries ≡ l.counter;
  start : length l.fn.entries.items ≤ l.counter;
  most : l.counter ≤ max l.end (length l.fn.entries.items);
  capacity : vec_capacity l.entries ≡ vec_capacity l.fn.entries;
}

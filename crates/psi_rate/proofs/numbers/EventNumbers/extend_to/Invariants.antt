-- Invariants of the loops of `EventNumbers::extend_to`.
use Rattle.std.proofs.Common.{◌≡◌, ◌≤◌, length, vec_capacity}
use Rattle.psi_rate.specs.Keeping.{KeepsNumbers}
use Rattle.psi_rate.proofs.numbers.EventNumbers.extend_to.Given as goal

-- the numbers reach the marks below this one
abbrev pub invariant-loop-number : goal.invariant-loop-number
invariant-loop-number g l = record {
  kept : KeepsNumbers l.wheel (g.P.Past.words l.fn.past) l.horizon l.self;
  list_room : vec_capacity l.fn.self.list ≤ vec_capacity l.self.list;
  count_room : vec_capacity l.self.counts ≡ vec_capacity l.fn.self.counts;
  number : length l.self.counts.items ≡ l.number;
  words : g.P.Past.words l.past ≡ g.P.Past.words l.fn.past;
}

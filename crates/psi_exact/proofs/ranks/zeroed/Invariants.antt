-- Invariants of the loops of `zeroed`.
use Rattle.std.proofs.Common.{◌≡◌, ◌≤◌, length, vec_capacity}
use Rattle.psi_exact.proofs.ranks.zeroed.Given as goal

abbrev pub invariant-loop-rank : goal.invariant-loop-rank
invariant-loop-rank l = record {
  room : l.count ≤ vec_capacity l.ranks;
  count : length l.ranks.items ≡ l._rank;
}

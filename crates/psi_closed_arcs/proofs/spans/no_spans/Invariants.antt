-- Invariants of the loops of `no_spans`.
use Rattle.std.proofs.Common.{◌≡◌, ◌≤◌, length, vec_capacity}
use Rattle.psi_closed_arcs.proofs.spans.no_spans.Given as goal

abbrev pub invariant-loop-level : goal.invariant-loop-level
invariant-loop-level l = record {
  room : 32 ≤ vec_capacity l.spans;
  count : length l.spans.items ≡ l._level;
}

-- Invariants of the loops of `free_nodes`.
use Rattle.std.proofs.Common.{◌≡◌, ◌≤◌, length, vec_capacity}
use Rattle.psi_pool.proofs.nodes.free_nodes.Given as goal

abbrev pub invariant-loop-place : goal.invariant-loop-place
invariant-loop-place l = record {
  room : l.most ≤ vec_capacity l.nodes;
  count : length l.nodes.items ≡ l._place;
}

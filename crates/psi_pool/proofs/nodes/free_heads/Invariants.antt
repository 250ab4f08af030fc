-- Invariants of the loops of `free_heads`.
use Rattle.std.proofs.Common.{◌≡◌, ◌<◌, ◌≤◌, ℕ, length, slice_index, vec_capacity}
use Rattle.psi_pool.proofs.nodes.free_heads.Given as goal

abbrev pub invariant-loop-bucket : goal.invariant-loop-bucket
invariant-loop-bucket l = record {
  room : l.count ≤ vec_capacity l.heads;
  count : length l.heads.items ≡ l._bucket;
  none : (b : ℕ) → b < l._bucket → slice_index l.heads.items b ≡ 4096;
}

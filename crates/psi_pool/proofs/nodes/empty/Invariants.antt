-- Invariants of the loops of `empty`.
use Rattle.std.proofs.Common.{◌≡◌, ℕ, ◌<◌, slice_index}
use Rattle.psi_pool.proofs.nodes.empty.Given as goal

abbrev pub invariant-loop-bucket : goal.invariant-loop-bucket
invariant-loop-bucket l = (b : ℕ) → b < l.bucket → slice_index l.heads b ≡ 4096

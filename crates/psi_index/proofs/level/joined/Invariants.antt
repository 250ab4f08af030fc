-- Invariants of the loops of `joined`.
use Rattle.std.proofs.Common.{◌≡◌, ℕ, ◌+◌, ◌<◌, ◌≤◌, min, slice_index, vec_len}
use Rattle.psi_index.proofs.level.joined.Given as goal

abbrev pub invariant-loop-i : goal.invariant-loop-i
invariant-loop-i l = record {
  len : vec_len l.least ≡ l.count;
  done : (k : ℕ) → k < l.i → slice_index l.least.items k ≡ min (slice_index l.halves k) (slice_index l.halves (k + l.half));
  left : (k : ℕ) → l.i ≤ k → k < l.count → slice_index l.least.items k ≡ slice_index l.halves k;
}

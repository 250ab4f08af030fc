-- Invariants of the loops of `troughs_of`.
use Rattle.std.proofs.Common.{◌≡◌, ℕ, ◌<◌, ◌≤◌, length, slice_index, vec_len}
use Rattle.psi_index.proofs.hulls.troughs_of.Given as goal

abbrev pub invariant-loop-i : goal.invariant-loop-i
invariant-loop-i l = record {
  len : vec_len l.troughs ≡ length l.values;
  low : (k : ℕ) → l.i ≤ k → k < length l.values → l.trough ≤ slice_index l.values k;
  below : (j k : ℕ) → l.i ≤ j → j ≤ k → k < length l.values → slice_index l.troughs.items j ≤ slice_index l.values k;
}

-- Invariants of the loops of `peaks_of`.
use Rattle.std.proofs.Common.{◌≡◌, ℕ, ◌<◌, ◌≤◌, length, slice_index, vec_len}
use Rattle.psi_index.proofs.hulls.peaks_of.Given as goal

abbrev pub invariant-loop-i : goal.invariant-loop-i
invariant-loop-i l = record {
  len : vec_len l.peaks ≡ length l.values;
  top : (k : ℕ) → k < l.i → slice_index l.values k ≤ l.peak;
  above : (j k : ℕ) → k ≤ j → j < l.i → slice_index l.values k ≤ slice_index l.peaks.items j;
}

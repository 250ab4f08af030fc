-- Invariants of the loops of `least_of`.
use Rattle.std.proofs.Common.{◌≡◌, ℕ, ◌<◌, ◌≤◌, slice_index}
use Rattle.psi_follow_keyed.proofs.marked.least_of.Given as goal

abbrev pub invariant-loop-i : goal.invariant-loop-i
invariant-loop-i l = record {
  below : (j : ℕ) → j < l.i → l.least ≤ slice_index l.keys j;
  reached : (j : ℕ) × (j < 32) × (slice_index l.keys j ≡ l.least);
}

-- Invariants of the loops of `past_lower`.
use Rattle.std.proofs.Common.{ℕ, ◌-◌, ◌<◌, ◌≤◌, length, slice_index}
use Rattle.psi_index.proofs.falls.past_lower.Given as goal

abbrev pub invariant-loop-place : goal.invariant-loop-place
invariant-loop-place l = record {
  from : l.near ≤ l.place;
  within : l.place ≤ length l.peaks;
  below : (k : ℕ) → l.near ≤ k → k < l.place → slice_index l.peaks k < l.bound;
}

abbrev pub decreases-loop-place : goal.decreases-loop-place
decreases-loop-place l = length l.peaks - l.place

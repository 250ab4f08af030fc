-- Invariants of the loops of `top_of`.
use Rattle.std.proofs.Common.{◌≡◌, ℕ, ◌<◌, length, slice_index}
use Rattle.psi_exact.proofs.alike.top_of.Given as goal

abbrev pub invariant-loop-place : goal.invariant-loop-place
invariant-loop-place l = record {
  same_length : length l.top ≡ length l.state;
  same : (q : ℕ) → q < l.place → 0 < slice_index l.span q → slice_index l.top q ≡ slice_index l.state q;
  full : (q : ℕ) → q < l.place → slice_index l.span q ≡ 0 → slice_index l.top q ≡ slice_index l.caps q;
}

-- Invariants of the loops of `is_one_in`.
use Rattle.std.proofs.Common.{◌≡◌, ℕ, ◌<◌, slice_index}
use Rattle.psi_exact.proofs.alike.is_one_in.Given as goal

abbrev pub invariant-loop-place : goal.invariant-loop-place
invariant-loop-place l = record {
  done : (q : ℕ) → q < l.place → 0 < slice_index l.span q → slice_index l.bounds.lo q ≡ slice_index l.bounds.hi q;
}

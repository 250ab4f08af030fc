-- Invariants of the loops of `clear`.
use Rattle.std.proofs.Common.{◌≡◌, ℕ, ◌<◌, slice_index}
use Rattle.psi_exact.proofs.ranks.clear.Given as goal

abbrev pub invariant-loop-place : goal.invariant-loop-place
invariant-loop-place l = (r : ℕ) → r < l.place → slice_index l.marks r ≡ 0

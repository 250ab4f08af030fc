-- Invariants of the loops of `is_above_a_target`.
use Rattle.std.proofs.Common.{◌≡◌, ◌<◌, ℕ, slice_index, nat_lt, false}
use Rattle.psi_route.proofs.judging.is_above_a_target.Given as goal

abbrev pub invariant-loop-i : goal.invariant-loop-i
invariant-loop-i l = (k : ℕ) → k < l.i → nat_lt (slice_index l.caps (slice_index l.targets k)) l.size ≡ false

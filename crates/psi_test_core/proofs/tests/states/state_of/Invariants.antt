-- Invariants of the loops of `states::state_of`.
use Rattle.std.proofs.Common.{◌≡◌, ℕ, ◌<◌, length, slice_index}
use Rattle.psi_test_core.proofs.tests.states.state_of.Given as goal

abbrev pub invariant-loop-i : goal.invariant-loop-i
invariant-loop-i l = record {
  long : length l.x ≡ length l.numbers;
  same : (k : ℕ) → k < l.i → slice_index l.x k ≡ slice_index l.numbers k;
}

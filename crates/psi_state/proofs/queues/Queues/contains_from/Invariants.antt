-- Invariants of the loops of `Queues::contains_from`.
use Rattle.std.proofs.Common.{◌≡◌, ◌<◌, ◌≤◌, ℕ, slice_index, nat_eq, false}
use Rattle.psi_state.proofs.queues.Queues.contains_from.Given as goal

abbrev pub invariant-loop-i : goal.invariant-loop-i
invariant-loop-i l = (k : ℕ) → l.first ≤ k → k < l.i → nat_eq (slice_index l.self k) l.q ≡ false

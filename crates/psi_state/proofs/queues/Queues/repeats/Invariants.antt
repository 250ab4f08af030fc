-- Invariants of the loops of `Queues::repeats`.
use Rattle.std.proofs.Common.{◌≡◌, ◌<◌, ℕ, suc, drop, slice_index, nat_eq, false}
use Rattle.std.specs.List.{list_any}
use Rattle.psi_state.proofs.queues.Queues.repeats.Given as goal

abbrev pub invariant-loop-i : goal.invariant-loop-i
invariant-loop-i l = (k : ℕ) → k < l.i → list_any (λ p. nat_eq p (slice_index l.self k)) (drop (suc k) l.self) ≡ false

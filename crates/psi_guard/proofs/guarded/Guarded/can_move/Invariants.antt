-- Invariants of the loops of `Guarded::can_move`.
use Rattle.std.proofs.Common.{ℕ, ◌<◌}
use Rattle.psi_guard.specs.Refusals.{at}
use Rattle.psi_guard.proofs.IntervalsLemmas.{PartMeets}
use Rattle.psi_guard.proofs.guarded.Guarded.can_move.Given as goal

abbrev pub invariant-loop-i : goal.invariant-loop-i
invariant-loop-i l = (k : ℕ) → k < l.i → PartMeets l.b.lo l.b.hi (at l.self.parts k)

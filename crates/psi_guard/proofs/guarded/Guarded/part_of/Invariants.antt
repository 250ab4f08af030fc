-- Invariants of the loops of `Guarded::part_of`.
use Rattle.std.proofs.Common.{◌≡◌, ℕ, ◌<◌}
use Rattle.psi_guard.specs.Refusals.{at}
use Rattle.psi_guard.proofs.guarded.Guarded.part_of.Given as goal

abbrev pub invariant-loop-i : goal.invariant-loop-i
invariant-loop-i l = (k : ℕ) → k < l.i → (at l.self.parts k).queue ≡ l.queue → ⊥

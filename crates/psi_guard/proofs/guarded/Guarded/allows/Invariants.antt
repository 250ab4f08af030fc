-- Invariants of the loops of `Guarded::allows`.
use Rattle.std.proofs.Common.{ℕ, ◌<◌, ◌≤◌, slice_index}
use Rattle.psi_guard.specs.Refusals.{at}
use Rattle.psi_guard.proofs.guarded.Guarded.allows.Given as goal

abbrev pub invariant-loop-i : goal.invariant-loop-i
invariant-loop-i l =
    (k : ℕ) → k < l.i → ((at l.self.parts k).least ≤ slice_index l.x (at l.self.parts k).queue) × (slice_index l.x (at l.self.parts k).queue ≤ (at l.self.parts k).most)

-- Invariants of the loops of `State::has_quads_of`.
use Rattle.std.proofs.Common.{◌≡◌, ◌<◌, ℕ}
use Rattle.psi_state.specs.Hashing.{quad}
use Rattle.psi_state.proofs.state.State.has_quads_of.Given as goal

abbrev pub invariant-loop-i : goal.invariant-loop-i
invariant-loop-i l = (k : ℕ) → k < l.i → quad l.self k ≡ quad l.other k

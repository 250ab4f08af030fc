-- Invariants of the loops of `State::begins_as`.
use Rattle.std.proofs.Common.{◌≡◌, ◌<◌, ℕ}
use Rattle.psi_state.specs.Hashing.{quad}
use Rattle.psi_state.proofs.state.State.begins_as.Given as goal

abbrev pub invariant-loop-i : goal.invariant-loop-i
invariant-loop-i l = (k : ℕ) → k < l.i → quad l.row k ≡ quad l.self k

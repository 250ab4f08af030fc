-- Invariants of the loops of `State::ends_as`.
use Rattle.std.proofs.Common.{◌≡◌, ◌≤◌, ◌<◌, ℕ}
use Rattle.std.specs.Prelude.{slice_index}
use Rattle.psi_state.proofs.state.State.ends_as.Given as goal

abbrev pub invariant-loop-i : goal.invariant-loop-i
invariant-loop-i l = (k : ℕ) → l.fn.first ≤ k → k < l.i → slice_index l.row k ≡ slice_index l.self k

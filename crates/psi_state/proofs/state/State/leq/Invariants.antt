-- Invariants of the loops of `State::leq`.
use Rattle.std.specs.Prelude.{◌≡◌, ℕ, ◌<◌, ◌≤◌, ◌↔◌, slice_index}
use Rattle.psi_state.proofs.state.State.leq.Given as goal

-- none is above where each so far is at most the other
abbrev pub invariant-loop-i : goal.invariant-loop-i
invariant-loop-i l = (l.above ≡ 0) ↔ ((k : ℕ) → k < l.i → slice_index l.own k ≤ slice_index l.most k)

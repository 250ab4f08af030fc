-- Invariants of the loops of `StateOrd::cmp`.
use Rattle.std.proofs.Common.{◌≡◌, ◌<◌, ℕ}
use Rattle.psi_state.specs.Hashing.{quad}
use Rattle.psi_state.proofs.state.StateOrd.cmp.Given as goal

-- the quads so far are the same
abbrev pub invariant-loop-i : goal.invariant-loop-i
invariant-loop-i l = (k : ℕ) → k < l.i → quad l.self k ≡ quad l.other k

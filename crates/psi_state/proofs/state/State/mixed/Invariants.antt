-- Invariants of the loops of `State::mixed`.
use Rattle.std.proofs.Common.{◌≡◌}
use Rattle.psi_state.specs.Hashing.{mixed}
use Rattle.psi_state.proofs.state.State.mixed.Given as goal

abbrev pub invariant-loop-i : goal.invariant-loop-i
invariant-loop-i l = record { so_far : l.product ≡ mixed l.self l.i }

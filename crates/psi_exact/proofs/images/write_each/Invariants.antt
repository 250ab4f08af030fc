-- Invariants of the loops of `write_each`.
use Rattle.std.proofs.Common.{◌≡◌, ℕ, ◌<◌, drop, slice_index}
use Rattle.psi_state.specs.State.{all_states}
use Rattle.psi_exact.specs.Ranks.{rank_of, state_at}
use Rattle.psi_exact.proofs.images.write_each.Given as goal

-- the states that are still to come, and the ranks of the images of those before them
abbrev pub invariant-loop-state : goal.invariant-loop-state
invariant-loop-state g l = record {
  left : l.state-iterator ≡ drop l.rank (all_states (g.E.EventLaw.capacities l.e));
  done : (r : ℕ) → r < l.rank → slice_index l.ranks r ≡ rank_of (g.E.EventLaw.capacities l.e) (g.E.EventLaw.function l.e (state_at (g.E.EventLaw.capacities l.e) r));
}

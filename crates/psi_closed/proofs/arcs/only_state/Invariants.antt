-- Invariants of the loop of `only_state`.
use Rattle.std.proofs.Common.{◌≡◌, ◌≤◌, List, ℕ, length}
use Rattle.psi_state.specs.Members.{In}
use Rattle.psi_closed.specs.Closed.{held_states}
use Rattle.psi_closed.proofs.StatesLemmas.{IsFront}
use Rattle.psi_closed.proofs.arcs.only_state.Given as goal

-- each held state begins as the state so far
abbrev pub invariant-loop-level : goal.invariant-loop-level
invariant-loop-level l = record {
  long : length l.state ≡ length l.caps;
  small : l.before ≤ l.arcs.total;
  front : (y : List ℕ) → In y (held_states l.caps l.arcs.total l.arcs.arcs) → IsFront l.state y l.level l.before;
}

-- Invariants of the loop of `put_states`.
use Rattle.std.proofs.Common.{◌≡◌, ℕ, take, ◌↔◌}
use Rattle.psi_closed_arcs.specs.Held.{Listed}
use Rattle.psi_closed.specs.Closed.{all_arcs}
use Rattle.psi_closed.proofs.arcs.put_states.Given as goal

-- the arcs are those of the states so far
abbrev pub invariant-loop-state : goal.invariant-loop-state
invariant-loop-state l = record {
  levels : l.arcs.levels ≡ l.fn.arcs.levels;
  total : l.arcs.total ≡ l.fn.arcs.total;
  arcs : (q s v : ℕ) → Listed l.arcs.arcs q s v ↔ Listed (all_arcs (take l.state-index l.states)) q s v;
}

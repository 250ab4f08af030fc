-- Invariants of the loop of `put_state`.
use Rattle.std.proofs.Common.{◌≡◌, ℕ, take, ◌↔◌, ◌⊎◌}
use Rattle.psi_closed_arcs.specs.Walks.{customers}
use Rattle.psi_closed_arcs.specs.Held.{Listed}
use Rattle.psi_closed.proofs.StatesLemmas.{IsEarlier}
use Rattle.psi_closed.proofs.arcs.put_state.Given as goal

-- the arcs of the queues so far are there, and the sum of what these hold is known
abbrev pub invariant-loop-level : goal.invariant-loop-level
invariant-loop-level l = record {
  levels : l.arcs.levels ≡ l.fn.arcs.levels;
  total : l.arcs.total ≡ l.fn.arcs.total;
  before : l.before ≡ customers (take l.level l.state);
  arcs : (q s v : ℕ) → Listed l.arcs.arcs q s v ↔ (Listed l.fn.arcs.arcs q s v ⊎ IsEarlier l.state l.level q s v);
}

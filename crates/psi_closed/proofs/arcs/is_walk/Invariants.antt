-- Invariants of the loop of `is_walk`.
use Rattle.std.proofs.Common.{◌≡◌, ℕ, ◌<◌, ◌≤◌, take, slice_index}
use Rattle.psi_closed_arcs.specs.Walks.{customers}
use Rattle.psi_closed_arcs.specs.Held.{Listed}
use Rattle.psi_closed.proofs.arcs.is_walk.Given as goal

-- the arcs of the state at the queues so far are there
abbrev pub invariant-loop-level : goal.invariant-loop-level
invariant-loop-level l = record {
  before : l.before ≡ customers (take l.level l.state);
  small : l.before ≤ l.arcs.total;
  each : (i : ℕ) → i < l.level → Listed l.arcs.arcs i (customers (take i l.state)) (slice_index l.state i);
}

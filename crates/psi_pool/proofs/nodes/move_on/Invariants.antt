-- Invariants of the loops of `move_on`.
use Rattle.std.proofs.Common.{◌≡◌, ◌<◌, ◌≤◌, ℕ}
use Rattle.psi_pool.specs.Inner.NodesKept.{node_at}
use Rattle.psi_pool.proofs.nodes.move_on.Given as goal

abbrev pub invariant-loop-node : goal.invariant-loop-node
invariant-loop-node g l = record {
  done : (i : ℕ) → i < l.node-index → (node_at l.nodes i).state ≡ g.E.EventLaw.function l.e (node_at l.fn.nodes i).state;
  waiting : (i : ℕ) → l.node-index ≤ i → node_at l.nodes i ≡ node_at l.fn.nodes i;
}

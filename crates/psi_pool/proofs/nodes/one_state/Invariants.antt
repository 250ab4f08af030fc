-- Invariants of the loops of `one_state`.
use Rattle.std.proofs.Common.{◌≡◌, ◌<◌, ℕ}
use Rattle.psi_pool.specs.Inner.NodesKept.{node_at}
use Rattle.psi_pool.proofs.nodes.one_state.Given as goal

-- the nodes so far have the state of the first
abbrev pub invariant-loop-node : goal.invariant-loop-node
invariant-loop-node l = (i : ℕ) → i < l.node-index → (node_at l.nodes i).state ≡ l.first

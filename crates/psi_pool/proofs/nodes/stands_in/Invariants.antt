-- Invariants of the loops of `stands_in`.
use Rattle.std.proofs.Common.{◌≡◌, ◌<◌, ℕ}
use Rattle.psi_pool.specs.Inner.NodesKept.{node_at}
use Rattle.psi_pool.proofs.nodes.stands_in.Given as goal

-- no node so far has the state
abbrev pub invariant-loop-node : goal.invariant-loop-node
invariant-loop-node l = (i : ℕ) → i < l.node-index → l.x ≡ (node_at l.nodes i).state → ⊥

-- Invariants of the loops of `link_all`.
use Rattle.std.proofs.Common.{◌-◌, ◌≤◌, length}
use Rattle.psi_pool.specs.Inner.NodesKept.{states}
use Rattle.psi_pool.proofs.RelinkingLemmas.{IsRelinking}
use Rattle.psi_pool.proofs.nodes.link_all.Given as goal

abbrev pub invariant-loop-place : goal.invariant-loop-place
invariant-loop-place l = record {
  relinking : IsRelinking (states l.fn.nodes (length l.fn.nodes)) (length l.heads) l.nodes l.heads l.place l.left;
  fewer : l.left ≤ length l.fn.nodes;
}

abbrev pub decreases-loop-place : goal.decreases-loop-place
decreases-loop-place l = l.left - l.place

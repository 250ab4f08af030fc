-- Invariants of the loops of `gather`.
use Rattle.std.proofs.Common.{◌≡◌, vec_capacity}
use Rattle.psi_pool.specs.Inner.NodesKept.{states}
use Rattle.psi_pool.proofs.nodes.gather.Given as goal

abbrev pub invariant-loop-node : goal.invariant-loop-node
invariant-loop-node l = record {
  items : l.out.items ≡ states l.nodes l.node-index;
  capacity : vec_capacity l.out ≡ vec_capacity l.fn.out;
}

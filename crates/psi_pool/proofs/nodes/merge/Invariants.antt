-- Invariants of the loops of `merge`.
use Rattle.std.proofs.Common.{◌+◌, ◌++◌, length}
use Rattle.psi_pool.specs.Inner.NodesKept.{states}
use Rattle.psi_pool.proofs.ListingLemmas.{IsMerging}
use Rattle.psi_pool.proofs.nodes.merge.Given as goal

abbrev pub invariant-loop-listed : goal.invariant-loop-listed
invariant-loop-listed l = IsMerging (l.out ++ states l.fn.nodes l.fn.aside) l.out l.nodes (length l.out + l.fn.aside) l.listed l.aside

abbrev pub decreases-loop-listed : goal.decreases-loop-listed
decreases-loop-listed l = l.listed + l.aside

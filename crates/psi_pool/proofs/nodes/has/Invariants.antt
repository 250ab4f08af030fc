-- Invariants of the loops of `has`.
use Rattle.std.proofs.Common.{◌+◌, ◌%◌, length}
use Rattle.psi_pool.proofs.SeekingLemmas.{IsSeeking}
use Rattle.psi_pool.proofs.nodes.has.Given as goal

abbrev pub invariant-loop-link : goal.invariant-loop-link
invariant-loop-link l = IsSeeking (length l.heads) l.nodes (length l.nodes) l.x l.link

-- it falls along a chain, and is 0 past its end
abbrev pub decreases-loop-link : goal.decreases-loop-link
decreases-loop-link l = (l.link + 1) % 4097

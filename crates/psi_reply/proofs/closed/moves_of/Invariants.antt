-- Invariants of the loops of `closed::moves_of`.
use Rattle.std.proofs.Common.{take}
use Rattle.psi_reply.specs.Closed.{AreMovesOf}
use Rattle.psi_reply.proofs.closed.moves_of.Given as goal

abbrev pub invariant-loop-e : goal.invariant-loop-e
invariant-loop-e l = AreMovesOf (take l.e l.net.events) l.moves.items

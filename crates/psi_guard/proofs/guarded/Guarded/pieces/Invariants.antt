-- Invariants of the loops of `Guarded::pieces`.
use Rattle.psi_guard.specs.Pieces.{Tell}
use Rattle.psi_guard.proofs.guarded.Guarded.pieces.Given as goal

abbrev pub invariant-loop-queue : goal.invariant-loop-queue
invariant-loop-queue l = Tell l.self.caps l.self.parts l.queue (record { bounds = l.bounds; first = l.first; second = l.second })

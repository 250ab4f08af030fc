-- Invariants of the loops of `put_move`.
use Rattle.psi_log_format.proofs.MoveLemmas.{AreTold}
use Rattle.psi_log_format.proofs.regions.put_move.Given as goal

abbrev pub invariant-loop : goal.invariant-loop
invariant-loop l = AreTold l.from l.to l.fn.out l.out l.fn.at l.end-2 l.left l.counter

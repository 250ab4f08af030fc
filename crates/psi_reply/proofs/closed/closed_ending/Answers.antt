-- Answers in the proof of `closed::closed_ending`.
use Rattle.psi_reply.proofs.ClosingLemmas.{first_other-none}
use Rattle.psi_reply.proofs.closed.closed_ending.Goals as goal

pub returns-in-Ok : goal.returns-in-Ok
returns-in-Ok c = rw (first_other-none c.args.net.now c.in-Ok.moves.items c.in-Ok.ensures.moves) c.work_on_moves.ensures

-- Answers in the proof of `Net::moves`.
use Rattle.psi_net_model.proofs.MoveLemmas.{move_done}
use Rattle.psi_net_model.proofs.net.Net.moves.Goals as goal

pub returns-clause-does : goal.returns-clause-does
returns-clause-does c = move_done c.args.self.now c.args.e c.event.result.now c.as_move.result c.event.ensures.kept c.event.ensures.event c.as_move.ensures

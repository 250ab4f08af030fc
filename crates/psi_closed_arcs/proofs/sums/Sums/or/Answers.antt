-- Answers in the proof of `Sums::or`.
use Rattle.psi_closed_arcs.proofs.SumsLemmas.{has-or}
use Rattle.psi_closed_arcs.proofs.sums.Sums.or.Goals as goal

pub returns : goal.returns
returns c t small = has-or c.args.self.now c.args.other.now t small

-- Answers in the proof of `Sums::and`.
use Rattle.psi_closed_arcs.proofs.SumsLemmas.{has-and}
use Rattle.psi_closed_arcs.proofs.sums.Sums.and.Goals as goal

pub returns : goal.returns
returns c t small = has-and c.args.self.now c.args.other.now t small

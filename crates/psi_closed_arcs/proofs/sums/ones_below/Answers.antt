-- Answers in the proof of `ones_below`.
use Rattle.psi_closed_arcs.proofs.SumsLemmas.{rest-mask}
use Rattle.psi_closed_arcs.proofs.sums.ones_below.Goals as goal

pub returns : goal.returns
returns c = rest-mask c.args.word c.args.end c.ones_from.result c.ones_from.type_inv c.ones_from.ensures

-- Answers in the proof of `Sums::insert`.
use Rattle.std.proofs.Common.{arith}
use Rattle.psi_closed_arcs.proofs.SumsLemmas.{has-insert}
use Rattle.psi_closed_arcs.proofs.sums.Sums.insert.Goals as goal

pub returns : goal.returns
returns c t small = has-insert c.args.self.now c.args.sum t c.requires small (omega arith)

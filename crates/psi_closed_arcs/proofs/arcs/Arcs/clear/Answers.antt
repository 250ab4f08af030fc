-- Answers in the proof of `Arcs::clear`.
use Rattle.std.proofs.Common.{arith}
use Rattle.std.proofs.lemmas.Grind.{common_steps}
use Rattle.psi_closed_arcs.proofs.RowsLemmas.{empty-arcs, written}
use Rattle.psi_closed_arcs.proofs.arcs.Arcs.clear.Goals as goal

pub returns-clause-arcs : goal.returns-clause-arcs
returns-clause-arcs c = grind (arith, common_steps, written, empty-arcs)

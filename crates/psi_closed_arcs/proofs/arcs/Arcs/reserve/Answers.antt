-- Answers in the proof of `Arcs::reserve`.
use Rattle.std.proofs.Common.{arith}
use Rattle.std.proofs.lemmas.Grind.{common_steps}
use Rattle.psi_closed_arcs.proofs.RowsLemmas.{empty-arcs}
use Rattle.psi_closed_arcs.proofs.arcs.Arcs.reserve.Goals as goal

pub returns : goal.returns
returns c = grind (arith, common_steps, empty-arcs)

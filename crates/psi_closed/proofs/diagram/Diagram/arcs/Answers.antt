-- Answers in the proof of `Diagram::arcs`.
use Rattle.std.proofs.Common.{arith}
use Rattle.std.proofs.lemmas.Grind.{common_steps}
use Rattle.psi_closed.proofs.DiagramLemmas.{arcs-count}
use Rattle.psi_closed.proofs.diagram.Diagram.arcs.Goals as goal

pub returns : goal.returns
returns c = grind (arith, common_steps, arcs-count)

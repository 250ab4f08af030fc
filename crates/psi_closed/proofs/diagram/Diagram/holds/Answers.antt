-- Answers in the proof of `Diagram::holds`.
use Rattle.std.proofs.Common.{arith}
use Rattle.std.proofs.lemmas.Grind.{common_steps}
use Rattle.psi_closed.proofs.DiagramLemmas.{state-walk, walk-state}
use Rattle.psi_closed.proofs.diagram.Diagram.holds.Goals as goal

pub returns : goal.returns
returns c = grind (arith, common_steps, walk-state, state-walk)

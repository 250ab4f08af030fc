-- Answers in the proof of `fill`.
use Rattle.std.proofs.Common.{arith}
use Rattle.std.proofs.lemmas.Grind.{common_steps}
use Rattle.psi_rate.proofs.EventTableLemmas.{filled-next}
use Rattle.psi_rate.proofs.event_table.fill.Goals as goal

pub loop-preserved : goal.loop-preserved
loop-preserved c = grind (arith, common_steps, filled-next)

-- Answers in the proof of `first_answer_near`.
use Rattle.std.proofs.Common.{arith}
use Rattle.std.proofs.lemmas.Grind.{common_steps}
use Rattle.psi_rate.proofs.DoublingLemmas.{none-lasting}
use Rattle.psi_rate.proofs.doubling.first_answer_near.Goals as goal

pub first_upwards-requires-clause-earlier : goal.first_upwards-requires-clause-earlier
first_upwards-requires-clause-earlier g c = grind (arith, common_steps, none-lasting)

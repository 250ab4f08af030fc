-- Answers in the proof of `first_downwards`.
use Rattle.std.proofs.Common.{arith}
use Rattle.std.proofs.lemmas.Grind.{common_steps}
use Rattle.psi_rate.proofs.DoublingLemmas.{shift-power, first-found, none-lasting}
use Rattle.psi_rate.proofs.doubling.first_downwards.Goals as goal

pub returns-in-None-clause-first : goal.returns-in-None-clause-first
returns-in-None-clause-first g c = grind (arith, common_steps, first-found, none-lasting, shift-power)

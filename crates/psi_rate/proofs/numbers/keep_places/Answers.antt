-- Answers in the proof of `keep_places`.
use Rattle.std.proofs.Common.{arith}
use Rattle.std.proofs.lemmas.Grind.{common_steps}
use Rattle.psi_rate.proofs.NumbersLemmas.{numbers-length}
use Rattle.psi_rate.proofs.numbers.keep_places.Goals as goal

pub returns-clause-few : goal.returns-clause-few
returns-clause-few g c = grind (arith, common_steps, numbers-length)

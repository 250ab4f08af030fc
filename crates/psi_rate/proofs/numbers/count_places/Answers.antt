-- Answers in the proof of `count_places`.
use Rattle.std.proofs.Common.{arith}
use Rattle.std.proofs.lemmas.Grind.{common_steps}
use Rattle.psi_rate.proofs.NumbersLemmas.{numbers-length}
use Rattle.psi_rate.proofs.numbers.count_places.Goals as goal

pub overflow_add-count : goal.overflow_add-count
overflow_add-count g c = grind (arith, common_steps, numbers-length)

-- Answers in the proof of `EventNumbers::below`.
use Rattle.std.proofs.Common.{arith}
use Rattle.std.proofs.lemmas.Grind.{common_steps}
use Rattle.psi_rate.proofs.NumbersLemmas.{numbers-prefix}
use Rattle.psi_rate.proofs.numbers.EventNumbers.below.Goals as goal

pub returns-clause-numbers : goal.returns-clause-numbers
returns-clause-numbers g c = grind (arith, common_steps, numbers-prefix)

pub slice_bounds-result-end : goal.slice_bounds-result-end
slice_bounds-result-end g c = grind (arith, common_steps, numbers-prefix)

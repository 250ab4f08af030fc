-- Answers in the proof of `ending`.
use Rattle.std.proofs.Common.{arith, map}
use Rattle.std.proofs.lemmas.List.{length-map}
use Rattle.std.proofs.lemmas.Grind.{common_steps}
use Rattle.psi_rate.proofs.NumbersLemmas.{numbers-all}
use Rattle.psi_closed.proofs.FollowLemmas.{numbers-ending}
use Rattle.psi_closed.proofs.runs.ending.Goals as goal

pub follow_numbers-requires-clause-numbers : goal.follow_numbers-requires-clause-numbers
follow_numbers-requires-clause-numbers g c = grind (arith, common_steps, numbers-all)

pub returns-clause-ending : goal.returns-clause-ending
returns-clause-ending g c = grind (arith, common_steps, numbers-ending, map, length-map)

-- Answers in the proof of `keep_window`.
use Rattle.std.proofs.Common.{take, vec_capacity, arith}
use Rattle.std.proofs.lemmas.Grind.{common_steps}
use Rattle.psi_rate.proofs.NumbersLemmas.{window-room}
use Rattle.psi_rate.proofs.numbers.keep_window.Goals as goal

pub returns-clause-kept : goal.returns-clause-kept
returns-clause-kept g c = grind (arith, common_steps, take, window-room, vec_capacity)

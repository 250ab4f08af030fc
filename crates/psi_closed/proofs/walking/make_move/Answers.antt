-- Answers in the proof of `make_move`.
use Rattle.std.proofs.Common.{slice_set, arith}
use Rattle.std.proofs.lemmas.Grind.{common_steps}
use Rattle.psi_closed.proofs.MovesLemmas.{moved-changed, moved-short, moved-full}
use Rattle.psi_closed.proofs.walking.make_move.Goals as goal

pub returns-then-own-m : goal.returns-then-own-m
returns-then-own-m c = grind (arith, common_steps, moved-short)

pub returns-then-other-get : goal.returns-then-other-get
returns-then-other-get c = grind (arith, common_steps, moved-full)

pub returns : goal.returns
returns c = grind (arith, common_steps, slice_set, moved-changed)

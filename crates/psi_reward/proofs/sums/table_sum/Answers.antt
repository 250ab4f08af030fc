-- Answers in the proof of `table_sum`.
use Rattle.std.proofs.Common.{arith, rules}
use Rattle.psi_reward.proofs.AddingLemmas.{sum-start, sum-step}
use Rattle.psi_reward.proofs.sums.table_sum.Goals as goal

pub loop-place-init : goal.loop-place-init
loop-place-init c = grind (arith, sum-start)

pub loop-place-preserved : goal.loop-place-preserved
loop-place-preserved c = search (rules, sum-step)

-- Answers in the proof of `weighted_sum`.
use Rattle.std.proofs.Common.{rules}
use Rattle.psi_reward.proofs.AddingLemmas.{sum-step}
use Rattle.psi_reward.proofs.sums.weighted_sum.Goals as goal

pub loop-place-preserved : goal.loop-place-preserved
loop-place-preserved c = search (rules, sum-step)

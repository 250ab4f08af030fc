-- Answers in the proof of `RewardRewardLaw::value`.
use Rattle.std.proofs.Common.{arith}
use Rattle.psi_reward.proofs.AcceptedLemmas.{length-table, reach-table}
use Rattle.psi_reward.proofs.reward.RewardRewardLaw.value.Goals as goal

pub table_sum-requires-clause-lengths : goal.table_sum-requires-clause-lengths
table_sum-requires-clause-lengths c = length-table c.args.self.now.caps c.in-Table.queues c.in-Table.table c.args.self.now.kind c.in-Table.is c.args.self.now.valid

pub table_sum-requires-clause-rows : goal.table_sum-requires-clause-rows
table_sum-requires-clause-rows c = grind (arith, reach-table)

-- Answers in the proof of `reward`.
use Rattle.psi_net.proofs.KeptRewardsLemmas.{reward_kept}
use Rattle.psi_net.proofs.reward_tables.reward.Goals as goal

pub accepted_reward-requires-clause-kind : goal.accepted_reward-requires-clause-kind
accepted_reward-requires-clause-kind c = reward_kept _ _ _ _ _ _ _ _ c.args.known.now.same (rw c.empty.ensures at c.in-Ok-required_targets.ensures.value) c.in-Ok-read.ensures

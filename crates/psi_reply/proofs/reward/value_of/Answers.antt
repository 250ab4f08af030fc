-- Answers in the proof of `reward::value_of`.
use Rattle.psi_reward.specs.Rewards.{reward_kind}
use Rattle.psi_reply.proofs.CouplingLemmas.{valued_by}
use Rattle.psi_reply.proofs.reward.value_of.Goals as goal

pub returns-clause-value : goal.returns-clause-value
returns-clause-value c =
    let first = rw c.in_ok-plan.ensures.past at c.value_horizon-valued.ensures.first in
    valued_by _ c.in_ok-plan.plan.system c.args.net.now c.args.seed c.args.stream (reward_kind c.args.reward.now) c.value_horizon-valued.result c.in_ok-plan.ensures.kept
    c.in_ok-plan.ensures.system first

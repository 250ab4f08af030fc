-- Answers in the proof of `header::push_rewards`.
use Rattle.std.specs.Prelude.{codes}
use Rattle.psi_net_model.specs.Network.{NamedReward}
use Rattle.psi_table.proofs.HeaderLemmas.{names_pushed}
use Rattle.psi_table.proofs.header.push_rewards.Goals as goal

pub loop-reward-preserved : goal.loop-reward-preserved
loop-reward-preserved c =
    let pushed = c.in_ok-push_column.ensures in
    record {
      fields = names_pushed (λ (x : NamedReward). x.name) (codes "reward.") c.args.net.now.rewards c.loop-reward.reward c.reward_name.result _ _ _ pushed.fields c.loop-reward.invariant.fields c.reward_name.ensures;
      whole = pushed.whole;
    }

-- A linear reward is additive.
use Rattle.std.proofs.Common.{sym, ◌∙◌}
use Rattle.psi_table.proofs.AdditiveLemmas.{read_additive}
use Rattle.psi_table.proofs.rewards.NetRewardsRewards.is_additive.Goals as goal

pub returns : goal.returns
returns c = λ yes. read_additive c.args.self.now.net.now c.args.r _ c.reward.ensures.kind (sym c.is_linear.ensures ∙ yes)

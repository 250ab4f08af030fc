-- Answers in the proof of `reporting::push_rewards`.
use Rattle.std.proofs.Common.{[], arith}
use Rattle.psi_net_model.specs.Network.{NamedReward}
use Rattle.psi_report.specs.Report.{reward_trio}
use Rattle.psi_report.proofs.TakingLemmas.{no_summaries, no_values, summaries_more}
use Rattle.psi_report.proofs.tally.reporting.push_rewards.Goals as goal

pub loop-r-init : goal.loop-r-init
loop-r-init c = no_summaries c.args.figures.now.items reward_trio c.args.met []

pub loop-r-preserved : goal.loop-r-preserved
loop-r-preserved c =
    summaries_more (λ (q : NamedReward). q.name) c.args.figures.now.items _ _ reward_trio c.args.met c.loop-r.r c.args.net.now.rewards c.args.summaries.now c.reward_name-name.result no_values
    c.loop-r.invariant c.in_ok-push_summary.ensures c.reward_name-name.ensures (omega arith)

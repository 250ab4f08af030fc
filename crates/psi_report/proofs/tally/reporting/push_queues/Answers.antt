-- Answers in the proof of `reporting::push_queues`.
use Rattle.std.proofs.Common.{[], arith}
use Rattle.psi_net_model.specs.declared.entries.Queue.{Queue}
use Rattle.psi_report.specs.Report.{queue_trio}
use Rattle.psi_report.proofs.TakingLemmas.{no_summaries, no_values, summaries_more}
use Rattle.psi_report.proofs.tally.reporting.push_queues.Goals as goal

pub loop-i-init : goal.loop-i-init
loop-i-init c = no_summaries c.args.figures.now.items queue_trio c.args.met []

pub loop-i-preserved : goal.loop-i-preserved
loop-i-preserved c =
    summaries_more (λ (q : Queue). q.name) c.args.figures.now.items _ _ queue_trio c.args.met c.loop-i.i c.args.net.now.queues c.args.summaries.now c.name.result no_values
    c.loop-i.invariant c.in_ok-push_summary.ensures c.name.ensures (omega arith)

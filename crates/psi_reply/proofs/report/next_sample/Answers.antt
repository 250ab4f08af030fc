-- Answers in the proof of `report::next_sample`.
use Rattle.std.proofs.Common.{sym, subst}
use Rattle.psi_report.specs.Samples.{IsSampleOf}
use Rattle.psi_reply.proofs.SamplingLemmas.{sampled_by}
use Rattle.psi_reply.proofs.ReportingLemmas.{sampled_counts}
use Rattle.psi_reply.proofs.report.next_sample.Goals as goal

pub returns-clause-value : goal.returns-clause-value
returns-clause-value c =
    let least = rw (c.replace.ensures, c.new.ensures) at c.sample.ensures.sample.least in
    sampled_by _ c.args.plan.now.system c.args.net.now c.args.seed c.args.stream c.sample.result c.queues-queues.ensures.kept c.requires least

pub returns-clause-sample : goal.returns-clause-sample
returns-clause-sample c =
    subst (IsSampleOf c.args.net.now) (sym (returns-clause-value c)) (sampled_counts c.args.net.now c.args.seed c.args.stream c.queues-queues.ensures.kept)

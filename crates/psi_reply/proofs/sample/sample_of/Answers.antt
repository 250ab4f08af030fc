-- Answers in the proof of `sample::sample_of`.
use Rattle.psi_reply.proofs.SamplingLemmas.{sampled_by}
use Rattle.psi_reply.proofs.sample.sample_of.Goals as goal

pub returns-clause-value : goal.returns-clause-value
returns-clause-value c =
    let least = rw c.in_ok-plan.ensures.past at c.sample-outcome.ensures.sample.least in
    sampled_by _ c.in_ok-plan.plan.system c.args.net.now c.args.seed c.args.stream c.sample-outcome.result c.in_ok-plan.ensures.kept c.in_ok-plan.ensures.system least

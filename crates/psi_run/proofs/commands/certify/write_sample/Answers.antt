-- Answers in the proof of `certify::write_sample`.
use Rattle.std.proofs.Common.{sym, ◌∙◌, subst}
use Rattle.psi_state.specs.declared.Outcome.{Outcome}
use Rattle.psi_reply.specs.Ending.{EndsWith}
use Rattle.psi_reply.specs.Ended.{ending_of}
use Rattle.psi_reply.specs.Reply.{Reply, certify_reply}
use Rattle.psi_reply.proofs.SamplingLemmas.{sampled_by}
use Rattle.psi_reply.proofs.CertifyingLemmas.{first_within, queues_counted, certified_by}
use Rattle.psi_program.proofs.FinishingLemmas.{finished_as, finished_with}
use Rattle.psi_run.proofs.commands.certify.write_sample.Goals as goal

pub write_run-status-requires-clause-most : goal.write_run-status-requires-clause-most
write_run-status-requires-clause-most g c = rw c.sample-outcome.ensures.system (first_within _ _ _ _ c.in-Met.ensures.sample.least)

pub returns-in-Met : goal.returns-in-Met
returns-in-Met g c =
    let made = c.in-Ok.ensures in
    let least = rw made.past at c.sample-outcome.ensures.sample.least in
    let is = sampled_by _ c.in-Ok.plan.system c.args.net.now c.args.seed c.args.stream c.sample-outcome.result made.kept made.system least in
    let same = certified_by _ c.in-Ok.plan.system c.args.net.now c.args.seed c.args.stream c.in-Met.horizon c.in-Met.state c.queues-queues.result c.sample-outcome.result
    made.kept made.system (queues_counted c.args.net.now c.queues-queues.result c.queues-queues.ensures.count) is c.in-Met.is in
    let finished = rw (c.sample-outcome.ensures.system, c.sample-outcome.ensures.words, made.past) at c.write_run-status.ensures in
    finished_as _ _ _ _ _ _ c.write_run-status.result finished (λ ending ends. subst (λ (r : Reply). EndsWith ending r) same ends)

pub returns-in-NotMet : goal.returns-in-NotMet
returns-in-NotMet g c =
    let made = c.in-Ok.ensures in
    let least = rw made.past at c.sample-outcome.ensures.sample.least in
    let is = sampled_by _ c.in-Ok.plan.system c.args.net.now c.args.seed c.args.stream c.sample-outcome.result made.kept made.system least in
    finished_with _ _ _ _ _ _ c.finish-in-NotMet.result c.finish-in-NotMet.ensures
    (subst (λ (o : Outcome). EndsWith (ending_of c.unmet_ending.result) (certify_reply c.args.net.now c.args.seed c.args.stream o)) (sym c.in-NotMet.is ∙ is) c.unmet_ending.ensures)

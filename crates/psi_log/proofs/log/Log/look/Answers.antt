-- Answers in the proof of `Log::look`.
use Rattle.std.proofs.Common.{subst}
use Rattle.psi_log_format.specs.Log.{Certificate, IsRegion}
use Rattle.psi_log_format.specs.Listed.{shown}
use Rattle.psi_log.specs.Inner.LogViews.{certificate_of}
use Rattle.psi_log.proofs.ToldLemmas.{region_told, regional}
use Rattle.psi_log.proofs.log.Log.look.Goals as goal

pub returns-clause-regional : goal.returns-clause-regional
returns-clause-regional c =
    let log = c.self.inside in
    let whole = certificate_of log.header log.regions.regions log.steps.items log.end in
    subst (λ (k : Certificate). IsRegion k.header.queues (shown c.get.result)) c.self.view_is
    (regional whole c.args.i (shown c.get.result) c.self.invariant.log
    (region_told log.header log.regions.regions log.steps.items log.end c.args.i (shown c.get.result) c.self.invariant c.get.ensures))

-- Answers in the proof of `couple::coupling_of`.
use Rattle.psi_reply.specs.Couple.{coupling}
use Rattle.psi_reply.proofs.CouplingLemmas.{coupled_by}
use Rattle.psi_reply.proofs.couple.coupling_of.Goals as goal

pub returns-clause-value : goal.returns-clause-value
unfolding coupling
returns-clause-value c =
    let least = rw (c.in_ok-plan.ensures.past, c.in_ok-plan.ensures.system.limit) at c.least_horizon-coupled.ensures.least in
    coupled_by _ c.in_ok-plan.plan.system c.args.net.now c.args.seed c.args.stream c.args.net.now.limit c.least_horizon-coupled.result c.in_ok-plan.ensures.kept c.in_ok-plan.ensures.system least

-- Answers in the proof of `Plan::single`.
use Rattle.psi_horizon.proofs.RunningLemmas.{plan-seen, one-within}
use Rattle.psi_horizon.proofs.plan.Plan.single.Goals as goal

pub returns-clause-within : goal.returns-clause-within
returns-clause-within g c =
    one-within c.args.self.now.system.caps c.self.inside.trace.region.area c.single.result
    ((plan-seen c.self.invariant g.met.E.EventLaw.closed c.self.view_is).area c.requires) c.single.ensures.value

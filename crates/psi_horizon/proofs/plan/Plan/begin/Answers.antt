-- Answers in the proof of `Plan::begin`.
use Rattle.psi_rate.specs.Composition.{system_functions}
use Rattle.psi_horizon.proofs.RunsLemmas.{region_after-whole}
use Rattle.psi_horizon.proofs.plan.Plan.begin.Goals as goal

pub returns-clause-whole : goal.returns-clause-whole
returns-clause-whole g c =
    let plan = c.args.self.now in
    region_after-whole plan.system.split plan.system.caps (system_functions g.E.EventLaw.function plan.system (g.P.Past.words plan.past)) c.args.horizon

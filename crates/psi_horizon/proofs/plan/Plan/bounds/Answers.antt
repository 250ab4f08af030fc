-- Answers in the proof of `Plan::bounds`.
use Rattle.std.proofs.Common.{◌≡◌, subst}
use Rattle.psi_rate.specs.Composition.{system_functions}
use Rattle.psi_region.specs.Region.{Area, ShowsBox}
use Rattle.psi_horizon.specs.Runs.{region_after}
use Rattle.psi_horizon.proofs.RunningLemmas.{if_some-map, plan-seen, shown-within}
use Rattle.psi_horizon.proofs.plan.Plan.bounds.Goals as goal

pub returns-clause-within : goal.returns-clause-within
returns-clause-within g c =
    let held = c.self.inside in
    let plan = c.args.self.now in
    let seen = plan-seen c.self.invariant g.met.E.EventLaw.closed c.self.view_is in
    shown-within plan.system.caps held.trace.region.area c.bounds.result (seen.area c.requires) c.bounds.ensures.shown c.bounds.ensures.ordered

pub returns-clause-shown : goal.returns-clause-shown
returns-clause-shown g c =
    let held = c.self.inside in
    let plan = c.args.self.now in
    let f = system_functions g.E.EventLaw.function plan.system (g.P.Past.words plan.past) in
    let seen = plan-seen c.self.invariant g.met.E.EventLaw.closed c.self.view_is in
    if_some-map (λ r. held.trace.region.area ≡ region_after plan.system.split f plan.system.caps r.horizon r.done)
    (λ r. ShowsBox (region_after plan.system.split f plan.system.caps r.horizon r.done) c.bounds.result) plan.run
    (λ r is. subst (λ (a : Area). ShowsBox a c.bounds.result) is c.bounds.ensures.shown) seen.at

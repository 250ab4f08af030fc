-- Answers in the proof of `Plan::advance`.
use Rattle.std.proofs.Common.{Option, IsSome, refl, sym, subst}
use Rattle.psi_rate.specs.Composition.{system_functions}
use Rattle.psi_rate.proofs.FunctionsLemmas.{functions-closed}
use Rattle.psi_horizon.specs.declared.trace.Progress.{Progress}
use Rattle.psi_horizon.specs.Inner.PlanKept.{running_of}
use Rattle.psi_horizon.proofs.RunningLemmas.{trace-seen}
use Rattle.psi_horizon.proofs.plan.Plan.advance.Goals as goal

pub follow-event-requires-clause-area : goal.follow-event-requires-clause-area
follow-event-requires-clause-area g c =
    let held = c.self.inside in
    let words = g.P.Past.words held.past in
    let seen = trace-seen (system_functions g.E.EventLaw.function held.system words) held.system held.trace.region held.trace.run
    (functions-closed g.E.EventLaw.capacities g.E.EventLaw.function held.system words g.met.E.EventLaw.closed c.self.invariant.fit.same_caps) c.self.invariant.traced.run in
    seen.area (subst (λ (run : Option Progress). IsSome (running_of run)) (sym c.in_ok-progress.was) refl)

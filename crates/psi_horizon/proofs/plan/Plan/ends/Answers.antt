-- Answers in the proof of `Plan::ends`.
use Rattle.std.proofs.Common.{ℕ, List, IfSome, ap, ◌∙◌, subst}
use Rattle.psi_rate.specs.Composition.{system_functions}
use Rattle.psi_region.specs.Followed.{AreEnds}
use Rattle.psi_horizon.specs.Planned.{Planned}
use Rattle.psi_horizon.specs.Runs.{region_at}
use Rattle.psi_horizon.proofs.RunningLemmas.{run-seen, plan-rests, ends-within}
use Rattle.psi_horizon.proofs.plan.Plan.ends.Goals as goal

pub ends-requires : goal.ends-requires
ends-requires g c = record { numbers = (c.run_of-run.ensures.run _ c.self.invariant.follower).events }

pub returns-clause-ends : goal.returns-clause-ends
returns-clause-ends g c =
    let seen = run-seen c.self.invariant g.met.E.EventLaw.closed c.self.view_is (c.run_of-run.ensures.run _ c.self.invariant.follower) c.keep.ensures.words in
    subst (λ (xs : List (List ℕ)). IfSome c.ends.result (λ b. AreEnds b xs)) seen.states c.ends.ensures.ends

pub returns-clause-within : goal.returns-clause-within
returns-clause-within g c =
    let plan = c.args.self.now in
    let seen = run-seen c.self.invariant g.met.E.EventLaw.closed c.self.view_is (c.run_of-run.ensures.run _ c.self.invariant.follower) c.keep.ensures.words in
    ends-within plan.system.caps (region_at plan.system.split (system_functions g.E.EventLaw.function plan.system (g.P.Past.words plan.past)) plan.system.caps c.args.horizon)
    c.ends.result seen.area (returns-clause-ends g c)

pub returns-clause-words : goal.returns-clause-words
returns-clause-words g c =
    c.run_of-run.ensures.words ∙ c.keep.ensures.words ∙ ap (λ (p : Planned g.row.E.Denot g.row.P.Denot). g.P.Past.words p.past) c.self.view_is

pub invariant_of-self : goal.invariant_of-self
invariant_of-self g c = plan-rests c.self.invariant c.run_of-run.ensures.kept c.ends.ensures.same

-- Answers in the proof of `Plan::states`.
use Rattle.std.proofs.Common.{◌≡◌, ◌≤◌, ℕ, List, length, true, refl, ap, ◌∙◌, subst}
use Rattle.psi_state.specs.Members.{In}
use Rattle.psi_rate.specs.Composition.{system_functions}
use Rattle.psi_region.specs.Region.{Area}
use Rattle.psi_horizon.specs.Planned.{Planned}
use Rattle.psi_horizon.specs.Runs.{region_after}
use Rattle.psi_horizon.proofs.RunningLemmas.{if_some-map, if_some-both, plan-seen}
use Rattle.psi_horizon.proofs.plan.Plan.states.Goals as goal

pub states-requires : goal.states-requires
states-requires g c =
    let held = c.self.inside in
    let plan = c.args.self.now in
    let f = system_functions g.E.EventLaw.function plan.system (g.P.Past.words plan.past) in
    let seen = plan-seen c.self.invariant g.met.E.EventLaw.closed c.self.view_is in
    if_some-both (λ r. held.trace.region.area ≡ region_after plan.system.split f plan.system.caps r.horizon r.done)
    (λ r. (region_after plan.system.split f plan.system.caps r.horizon r.done).is_split ≡ true) (held.trace.region.area.is_split ≡ true) plan.run
    (λ r is split. ap (λ (a : Area). a.is_split) is ∙ split) c.requires.begun seen.at c.requires.split

pub returns : goal.returns
returns g c =
    let held = c.self.inside in
    let plan = c.args.self.now in
    let f = system_functions g.E.EventLaw.function plan.system (g.P.Past.words plan.past) in
    let seen = plan-seen c.self.invariant g.met.E.EventLaw.closed c.self.view_is in
    let room : held.trace.region.split ≡ plan.system.split = c.self.invariant.traced.split ∙ ap (λ (p : Planned g.row.E.Denot g.row.P.Denot). p.system.split) c.self.view_is in (
      (refl, λ w. tt, c.self.view_is),
      record {
        states = if_some-map (λ r. held.trace.region.area ≡ region_after plan.system.split f plan.system.caps r.horizon r.done)
            (λ r. c.states.result.now ≡ (region_after plan.system.split f plan.system.caps r.horizon r.done).states) plan.run
            (λ r is. c.states.ensures.states ∙ ap (λ (a : Area). a.states) is) seen.at;
        within = λ x member. (seen.area c.requires.begun).within x (subst (λ (xs : List (List ℕ)). In x xs) c.states.ensures.states member);
        rising = c.states.ensures.rising;
        some = c.states.ensures.some;
        few = subst (λ n. length c.states.result.now ≤ n) room c.states.ensures.few;
        same = tt;
      },
    )

-- Answers in the proof of `least_horizon`.
use Rattle.std.proofs.Common.{ℕ, suc, ◌/◌, ◌^◌, ◌≤◌, sym, subst}
use Rattle.psi_rate.specs.Composition.{SystemParts, system_functions}
use Rattle.psi_rate.specs.Least.{HasNoneBelow, IsLeast}
use Rattle.psi_rate.specs.System.{IsSystem}
use Rattle.psi_rate.proofs.FunctionsLemmas.{functions-closed}
use Rattle.psi_horizon.specs.Runs.{ending_at}
use Rattle.psi_horizon.proofs.RunsLemmas.{ending-reached}
use Rattle.psi_couple.specs.declared.answers.Coupled.TheVariants.{At, NotAt}
use Rattle.psi_couple.proofs.PlansLemmas.{same-both}
use Rattle.psi_couple.proofs.CouplingLemmas.{first-within, none_below-half, none_below-not_met, coupled_within-at, coupled_within-only, coupled-decides}
use Rattle.psi_couple.proofs.least.least_horizon.Goals as goal

pub least_up_to-requires-clause-fit : goal.least_up_to-requires-clause-fit
least_up_to-requires-clause-fit g c = subst (λ (s : SystemParts g.row.E.Denot). IsSystem g.E.EventLaw.capacities s) (sym c.sample.ensures.system) c.limit-limit.ensures.fit

pub least_up_to-requires-clause-most : goal.least_up_to-requires-clause-most
least_up_to-requires-clause-most g c =
    let system = c.args.plan.now.system in
    let run = ending_at system.split (system_functions g.E.EventLaw.function system (g.P.Past.words c.args.plan.now.past)) system.caps in
    subst (λ (s : SystemParts g.row.E.Denot). c.in-Met.horizon ≤ 2 ^ s.limit) (sym c.sample.ensures.system)
    (first-within run system.limit c.in-Met.horizon c.in-Met.state c.in-Met.ensures.sample.least)

pub least_up_to-requires-clause-half : goal.least_up_to-requires-clause-half
least_up_to-requires-clause-half g c =
    let system = c.args.plan.now.system in
    let words = g.P.Past.words c.args.plan.now.past in
    let closed = functions-closed g.E.EventLaw.capacities g.E.EventLaw.function system words g.met.E.EventLaw.closed c.limit-limit.ensures.fit.same_caps in
    same-both (λ (s : SystemParts g.row.E.Denot) (w : ℕ → ℕ). HasNoneBelow (ending_at s.split (system_functions g.E.EventLaw.function s w) s.caps) (suc (c.in-Met.horizon / 2)))
    system c.sample.new.self.system words (g.P.Past.words c.sample.new.self.past) (sym c.sample.ensures.system) (sym c.sample.ensures.words)
    (none_below-half system.split system.caps (system_functions g.E.EventLaw.function system words) system.limit c.in-Met.horizon c.in-Met.state closed
    c.in-Met.ensures.sample.least)

pub returns-in-Met-clause-least : goal.returns-in-Met-clause-least
returns-in-Met-clause-least g c =
    same-both (λ (s : SystemParts g.row.E.Denot) (w : ℕ → ℕ). IsLeast (ending_at s.split (system_functions g.E.EventLaw.function s w) s.caps) (2 ^ s.limit)
    c.least_up_to.result c.in-Met.state)
    c.sample.new.self.system c.args.plan.now.system (g.P.Past.words c.sample.new.self.past) (g.P.Past.words c.args.plan.now.past)
    c.sample.ensures.system c.sample.ensures.words c.least_up_to.ensures.least

pub returns-in-Met-clause-answer : goal.returns-in-Met-clause-answer
returns-in-Met-clause-answer g c =
    let system = c.args.plan.now.system in
    let words = g.P.Past.words c.args.plan.now.past in
    coupled_within-at (ending_at system.split (system_functions g.E.EventLaw.function system words) system.caps) system.limit c.least_up_to.result c.in-Met.state
    (returns-in-Met-clause-least g c)

pub returns-in-Met-clause-reached : goal.returns-in-Met-clause-reached
returns-in-Met-clause-reached g c =
    let system = c.args.plan.now.system in
    let words = g.P.Past.words c.args.plan.now.past in
    let closed = functions-closed g.E.EventLaw.capacities g.E.EventLaw.function system words g.met.E.EventLaw.closed c.limit-limit.ensures.fit.same_caps in
    let least = returns-in-Met-clause-least g c in
    ending-reached system.split system.caps (system_functions g.E.EventLaw.function system words) c.least_up_to.result c.in-Met.state closed least.answer

pub returns-in-Met-clause-later : goal.returns-in-Met-clause-later
returns-in-Met-clause-later g c =
    let system = c.args.plan.now.system in
    let words = g.P.Past.words c.args.plan.now.past in
    let closed = functions-closed g.E.EventLaw.capacities g.E.EventLaw.function system words g.met.E.EventLaw.closed c.limit-limit.ensures.fit.same_caps in
    coupled-decides system.split system.caps (system_functions g.E.EventLaw.function system words) system.limit (At c.least_up_to.result c.in-Met.state) closed
    (returns-in-Met-clause-least g c)

pub returns-in-NotMet-clause-later : goal.returns-in-NotMet-clause-later
returns-in-NotMet-clause-later g c = c.in-NotMet.ensures.sample.later

pub returns-in-NotMet-clause-answer : goal.returns-in-NotMet-clause-answer
returns-in-NotMet-clause-answer g c =
    let system = c.args.plan.now.system in
    let f = system_functions g.E.EventLaw.function system (g.P.Past.words c.args.plan.now.past) in
    let sample = c.in-NotMet.ensures.sample in
    coupled_within-only (ending_at system.split f system.caps) system.limit (NotAt c.limit-limit.result)
    (c.limit-limit.ensures.value, none_below-not_met system.split system.caps f system.limit c.limit-limit.result sample.later)

-- Answers in the proof of `Plan::sample`.
use Rattle.std.proofs.Common.{map, sym, subst, arith}
use Rattle.psi_state.specs.declared.Outcome.{Outcome}
use Rattle.psi_rate.specs.Composition.{system_functions}
use Rattle.psi_rate.specs.Outcomes.{IsOutcome}
use Rattle.psi_rate.proofs.FunctionsLemmas.{functions-closed}
use Rattle.psi_rate.proofs.OutcomesLemmas.{outcome_of-is, outcome_within-only}
use Rattle.psi_rate.proofs.PowersLemmas.{below-pow, pow-order}
use Rattle.psi_horizon.specs.Runs.{ending_at}
use Rattle.psi_horizon.proofs.RunsLemmas.{run-within, endings-last, runs-exact}
use Rattle.psi_horizon.proofs.SampleLemmas.{sample-is}
use Rattle.psi_horizon.proofs.plan.Plan.sample.Goals as goal

pub first_answer_near-requires-clause-allowed : goal.first_answer_near-requires-clause-allowed
first_answer_near-requires-clause-allowed g c exponent order =
    let some = below-pow exponent in
    let limit = c.limit-limit.ensures.value in
    (omega arith, pow-order exponent c.args.self.now.system.limit (omega arith))

pub first_answer_near-requires-clause-lasting : goal.first_answer_near-requires-clause-lasting
first_answer_near-requires-clause-lasting g c =
    let plan = c.args.self.now in
    let words = g.P.Past.words plan.past in
    endings-last plan.system.split plan.system.caps (system_functions g.E.EventLaw.function plan.system words)
    (functions-closed g.E.EventLaw.capacities g.E.EventLaw.function plan.system words g.met.E.EventLaw.closed c.limit-limit.ensures.fit.same_caps)

pub returns-clause-sample : goal.returns-clause-sample
returns-clause-sample g c =
    let plan = c.args.self.now in
    let words = g.P.Past.words plan.past in
    let run = ending_at plan.system.split (system_functions g.E.EventLaw.function plan.system words) plan.system.caps in
    sample-is plan.system.caps (map g.E.EventLaw.function plan.system.events) plan.system.rates plan.system.limit plan.system.split words c.outcome_of-outcome.result
    (functions-closed g.E.EventLaw.capacities g.E.EventLaw.function plan.system words g.met.E.EventLaw.closed c.limit-limit.ensures.fit.same_caps)
    (subst (λ n. IsOutcome run n c.outcome_of-outcome.result) c.limit-limit.ensures.value
    (subst (λ (o : Outcome). IsOutcome run c.limit-limit.result o) (sym c.outcome_of-outcome.ensures)
    (outcome_of-is run c.limit-limit.result c.first_answer_near.result c.first_answer_near.ensures.first)))

pub returns-clause-outcome : goal.returns-clause-outcome
returns-clause-outcome g c =
    let plan = c.args.self.now in
    outcome_within-only (ending_at plan.system.split (system_functions g.E.EventLaw.function plan.system (g.P.Past.words plan.past)) plan.system.caps)
    plan.system.limit c.outcome_of-outcome.result (returns-clause-sample g c).least

pub returns-clause-exact : goal.returns-clause-exact
returns-clause-exact g c = λ few.
    (let plan = c.args.self.now in
    runs-exact plan.system.split plan.system.caps (system_functions g.E.EventLaw.function plan.system (g.P.Past.words plan.past)) few)

pub returns-clause-order : goal.returns-clause-order
returns-clause-order g c =
    let plan = c.args.self.now in
    run-within plan.system.split plan.system.caps (system_functions g.E.EventLaw.function plan.system (g.P.Past.words plan.past))
    (functions-closed g.E.EventLaw.capacities g.E.EventLaw.function plan.system (g.P.Past.words plan.past) g.met.E.EventLaw.closed c.limit-limit.ensures.fit.same_caps)

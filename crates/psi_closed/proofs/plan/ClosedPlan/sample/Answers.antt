-- Answers in the proof of `ClosedPlan::sample`.
use Rattle.std.proofs.Common.{arith, ◌≡◌, ap, sym, subst}
use Rattle.std.proofs.lemmas.Grind.{common_steps}
use Rattle.psi_state.specs.declared.Outcome.{Outcome}
use Rattle.psi_rate.specs.Outcomes.{IsOutcome}
use Rattle.psi_rate.proofs.OutcomesLemmas.{outcome_of-is, outcome_within-only}
use Rattle.psi_rate.proofs.PowersLemmas.{pow-order}
use Rattle.psi_closed.specs.Closed.{closed_ending}
use Rattle.psi_closed.specs.Diagram.{IsTotal}
use Rattle.psi_closed.specs.Planned.{ClosedPlanned, network_functions, AreMoves}
use Rattle.psi_closed.proofs.RunsLemmas.{runs-ordered}
use Rattle.psi_closed.proofs.PlanLemmas.{sample-is, endings-lasting}
use Rattle.psi_closed.proofs.plan.ClosedPlan.sample.Goals as goal

pub returns-clause-sample : goal.returns-clause-sample
returns-clause-sample g c =
    let plan = c.args.self.now in
    let network = plan.network in
    let words = g.P.Past.words plan.past in
    let kept = c.self.invariant in
    let limit : c.self.inside.limit ≡ network.limit = ap (λ (p : ClosedPlanned g.row.P.Denot). p.network.limit) c.self.view_is in
    let run = closed_ending network.caps network.total (network_functions network words) in
    let least = subst (λ n. IsOutcome run n c.outcome_of-outcome.result) limit
    (subst (λ (o : Outcome). IsOutcome run c.self.inside.limit o) (sym c.outcome_of-outcome.ensures)
    (outcome_of-is run c.self.inside.limit c.first_answer_near.result c.first_answer_near.ensures.first)) in
    sample-is network.caps network.total network.moves network.rates words network.limit c.outcome_of-outcome.result
    (subst (λ (p : ClosedPlanned g.row.P.Denot). IsTotal p.network.caps p.network.total) c.self.view_is kept.fits)
    (subst (λ (p : ClosedPlanned g.row.P.Denot). AreMoves p.network.caps p.network.moves) c.self.view_is kept.moves) least

pub returns-clause-outcome : goal.returns-clause-outcome
returns-clause-outcome g c =
    let plan = c.args.self.now in
    outcome_within-only (closed_ending plan.network.caps plan.network.total (network_functions plan.network (g.P.Past.words plan.past))) plan.network.limit
    c.outcome_of-outcome.result (returns-clause-sample g c).least

pub returns-clause-order : goal.returns-clause-order
returns-clause-order g c = grind (arith, common_steps, runs-ordered)

pub first_answer_near-requires-clause-allowed : goal.first_answer_near-requires-clause-allowed
first_answer_near-requires-clause-allowed g c exponent order = grind (arith, common_steps, pow-order)

pub first_answer_near-requires-clause-lasting : goal.first_answer_near-requires-clause-lasting
first_answer_near-requires-clause-lasting g c =
    let plan = c.args.self.now in
    let network = plan.network in
    let kept = c.self.invariant in
    endings-lasting network.caps network.total network.moves network.rates (g.P.Past.words plan.past)
    (subst (λ (p : ClosedPlanned g.row.P.Denot). IsTotal p.network.caps p.network.total) c.self.view_is kept.fits)
    (subst (λ (p : ClosedPlanned g.row.P.Denot). AreMoves p.network.caps p.network.moves) c.self.view_is kept.moves)

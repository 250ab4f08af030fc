-- Answers in the proof of `are_monotone`.
use Rattle.std.proofs.Common.{◌≡◌, List, length, All, refl, ap, subst, arith}
use Rattle.psi_event.specs.Law.{IsMonotone}
use Rattle.psi_rate.proofs.FunctionsLemmas.{events-monotone}
use Rattle.psi_follow.proofs.MonotoneLemmas.{not-all, each-more}
use Rattle.psi_follow.proofs.monotone.are_monotone.Goals as goal

pub returns-then-not-monotone-clause-events : goal.returns-then-not-monotone-clause-events
returns-then-not-monotone-clause-events g c = (
  λ never. absurd cc,
  λ all. absurd (not-all (λ e. IsMonotone (g.E.EventLaw.capacities e) (g.E.EventLaw.function e)) c.args.course.now.events c.events-events.result.now c.loop-number.number
      c.index-events-number.result c.events-events.ensures.value (omega (arith, c.loop-number-test.true)) c.index-events-number.is
      (λ holds. (let own = c.monotone.ensures.1 holds in let fails = c.if-not-monotone.true in absurd cc)) all),
)

pub returns-then-not-monotone-clause-functions : goal.returns-then-not-monotone-clause-functions
returns-then-not-monotone-clause-functions g c = λ never. absurd cc

pub loop-number-preserved : goal.loop-number-preserved
loop-number-preserved g c =
    each-more (λ e. IsMonotone (g.E.EventLaw.capacities e) (g.E.EventLaw.function e)) c.args.course.now.events c.events-events.result.now c.loop-number.number
    c.index-events-number.result c.events-events.ensures.value (omega (arith, c.loop-number-test.true)) c.index-events-number.is
    (c.monotone.ensures.0 c.if-not-monotone.false) c.loop-number.invariant

pub returns-clause-events : goal.returns-clause-events
returns-clause-events g c =
    let long = ap (λ (es : List g.row.E.Denot). length es) c.events-events.ensures.value in
    (λ _ k d small. c.loop-number.invariant k d (omega (arith, c.loop-number-test.false, c.loop-number.auto.number-end, small, long)), λ _. refl)

pub returns-clause-functions : goal.returns-clause-functions
returns-clause-functions g c = λ yes.
    (let course = c.args.course.now in
    let long = ap (λ (es : List g.row.E.Denot). length es) c.events-events.ensures.value in
    events-monotone g.E.EventLaw.capacities g.E.EventLaw.function course.caps course.events
    (λ k d small. c.loop-number.invariant k d (omega (arith, c.loop-number-test.false, c.loop-number.auto.number-end, small, long)))
    (subst (λ (es : List g.row.E.Denot). All (λ e. g.E.EventLaw.capacities e ≡ course.caps) es) c.events-events.ensures.value c.events-events.ensures.same_caps))

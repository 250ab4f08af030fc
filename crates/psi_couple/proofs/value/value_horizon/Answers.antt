-- Answers in the proof of `value_horizon`.
use Rattle.std.proofs.Common.{◌≡◌, ℕ, suc, ◌*◌, ◌^◌, ◌%◌, ◌≤◌, ℤ, ap, sym, ◌∙◌, subst, rules, arith}
use Rattle.std.proofs.lemmas.Int.{to_z-of_z}
use Rattle.psi_reward.specs.Rewards.{reward_kind}
use Rattle.psi_reward.specs.Worth.{worth_of}
use Rattle.psi_rate.specs.Composition.{SystemParts, system_functions}
use Rattle.psi_rate.specs.Doubling.{HasNone, IsFirst}
use Rattle.psi_rate.proofs.DoublingLemmas.{shift-room, first-found}
use Rattle.psi_rate.proofs.FunctionsLemmas.{functions-closed}
use Rattle.psi_couple.specs.declared.answers.Valued.TheVariants.{At, NotAt}
use Rattle.psi_couple.specs.Valuing.{value_at}
use Rattle.psi_couple.proofs.ValuingLemmas.{valued_within-at, valued_within-only, value-reached, valued-decides}
use Rattle.psi_couple.proofs.value.value_horizon.Goals as goal
use mir.Syntax.{w64}
use mir.Val.{SFits, of_z, to_z}

pub value_after-requires-clause-most : goal.value_after-requires-clause-most
value_after-requires-clause-most g c =
    let limit = c.args.plan.now.system.limit in
    let bound = c.limit-limit.ensures.bound in
    let value = c.limit-limit.ensures.value in
    subst (λ (s : SystemParts g.row.E.Denot). 1 * 2 ^ c.loop-exponent.exponent % 4294967296 ≤ 2 ^ s.limit) (sym c.loop-exponent.invariant.system)
    (shift-room c.loop-exponent.exponent limit (2 ^ limit) (omega arith) (omega arith) (omega arith))

pub returns-in-Some-clause-first : goal.returns-in-Some-clause-first
returns-in-Some-clause-first g c =
    let fits : SFits w64 c.in-Some.value = search rules in
    let system = c.args.plan.now.system in
    let value = worth_of (reward_kind c.args.reward.now) in
    let horizon = 1 * 2 ^ c.loop-exponent.exponent % 4294967296 in
    let run_of = λ (s : SystemParts g.row.E.Denot) (w : ℕ → ℕ). value_at value s.split (system_functions g.E.EventLaw.function s w) s.caps in
    let kept = c.loop-exponent.invariant in
    let found = sym c.in-Some.is ∙ (c.value_after.ensures.value
    ∙ (ap (λ s. run_of s (g.P.Past.words c.loop-exponent.plan.past) horizon) kept.system ∙ ap (λ w. run_of system w horizon) kept.words)) in
    let back : to_z w64 (of_z w64 c.in-Some.value) ≡ c.in-Some.value = to_z-of_z w64 c.in-Some.value fits in
    subst (λ (v : ℤ). IsFirst (run_of system (g.P.Past.words c.args.plan.now.past)) system.limit horizon v) (sym back)
    (first-found (run_of system (g.P.Past.words c.args.plan.now.past)) system.limit c.loop-exponent.exponent c.in-Some.value (omega arith) (omega arith) kept.earlier found)

pub returns-in-Some-clause-answer : goal.returns-in-Some-clause-answer
returns-in-Some-clause-answer g c =
    let system = c.args.plan.now.system in
    let value = worth_of (reward_kind c.args.reward.now) in
    let f = system_functions g.E.EventLaw.function system (g.P.Past.words c.args.plan.now.past) in
    valued_within-at (value_at value system.split f system.caps) system.limit (1 * 2 ^ c.loop-exponent.exponent % 4294967296) (to_z w64 (of_z w64 c.in-Some.value))
    (returns-in-Some-clause-first g c)

pub returns-in-Some-clause-reached : goal.returns-in-Some-clause-reached
returns-in-Some-clause-reached g c =
    let system = c.args.plan.now.system in
    let words = g.P.Past.words c.args.plan.now.past in
    let value = worth_of (reward_kind c.args.reward.now) in
    let closed = functions-closed g.E.EventLaw.capacities g.E.EventLaw.function system words g.met.E.EventLaw.closed c.limit-limit.ensures.fit.same_caps in
    let first = returns-in-Some-clause-first g c in
    value-reached value system.split system.caps (system_functions g.E.EventLaw.function system words) (1 * 2 ^ c.loop-exponent.exponent % 4294967296) (to_z w64 (of_z w64 c.in-Some.value)) closed
    first.answer

pub returns-in-Some-clause-later : goal.returns-in-Some-clause-later
returns-in-Some-clause-later g c =
    let value = worth_of (reward_kind c.args.reward.now) in
    let system = c.args.plan.now.system in
    let words = g.P.Past.words c.args.plan.now.past in
    let closed = functions-closed g.E.EventLaw.capacities g.E.EventLaw.function system words g.met.E.EventLaw.closed c.limit-limit.ensures.fit.same_caps in
    valued-decides value system.split system.caps (system_functions g.E.EventLaw.function system words) system.limit
    (At (1 * 2 ^ c.loop-exponent.exponent % 4294967296) (to_z w64 (of_z w64 c.in-Some.value))) closed (returns-in-Some-clause-first g c)

pub returns-clause-first : goal.returns-clause-first
returns-clause-first g c =
    let system = c.args.plan.now.system in
    let value = worth_of (reward_kind c.args.reward.now) in
    let run = value_at value system.split (system_functions g.E.EventLaw.function system (g.P.Past.words c.args.plan.now.past)) system.caps in
    let bound : c.limit-limit.result ≡ system.limit = c.limit-limit.ensures.value in
    let e : c.loop-exponent.exponent ≡ suc system.limit = omega arith in
    (bound, subst (λ n. HasNone run n) e c.loop-exponent.invariant.earlier)

pub returns-clause-answer : goal.returns-clause-answer
returns-clause-answer g c =
    let system = c.args.plan.now.system in
    let value = worth_of (reward_kind c.args.reward.now) in
    let f = system_functions g.E.EventLaw.function system (g.P.Past.words c.args.plan.now.past) in
    valued_within-only (value_at value system.split f system.caps) system.limit (NotAt c.limit-limit.result) (returns-clause-first g c)

pub returns-clause-later : goal.returns-clause-later
returns-clause-later g c =
    let words = g.P.Past.words c.args.plan.now.past in
    let value = worth_of (reward_kind c.args.reward.now) in
    let system = c.args.plan.now.system in
    let closed = functions-closed g.E.EventLaw.capacities g.E.EventLaw.function system words g.met.E.EventLaw.closed c.limit-limit.ensures.fit.same_caps in
    valued-decides value system.split system.caps (system_functions g.E.EventLaw.function system words) system.limit (NotAt c.limit-limit.result) closed
    (returns-clause-first g c)

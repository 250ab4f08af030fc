-- Answers in the proof of `value_after`.
use Rattle.std.proofs.Common.{◌≡◌, ℕ, List, Some, ap, sym, ◌∙◌}
use Rattle.psi_reward.specs.Rewards.{reward_kind}
use Rattle.psi_reward.specs.Worth.{worth_of}
use Rattle.psi_rate.specs.Composition.{SystemParts, system_functions}
use Rattle.psi_region.specs.Region.{Area, ShowsBox}
use Rattle.psi_couple.specs.Valuing.{common_value, value_at}
use Rattle.psi_couple.proofs.PlansLemmas.{shown-ended}
use Rattle.psi_couple.proofs.value.value_after.Goals as goal

pub returns-in-Some-bounds-clause-value : goal.returns-in-Some-bounds-clause-value
returns-in-Some-bounds-clause-value g c =
    let plan = c.run_whole.new.plan in
    let words = g.P.Past.words plan.past in
    let value = worth_of (reward_kind c.args.reward.now) in
    let run_of = λ (s : SystemParts g.row.E.Denot) (w : ℕ → ℕ). value_at value s.split (system_functions g.E.EventLaw.function s w) s.caps c.args.horizon in
    let shown = shown-ended (λ (a : Area). ShowsBox a (Some c.in-Some-bounds.bounds)) plan.system.split plan.system.caps (system_functions g.E.EventLaw.function plan.system words)
    c.args.horizon plan.run c.run_whole.ensures.run c.in-Some-bounds.ensures.shown in
    c.value_on_box.ensures ∙ (ap (λ (xs : List (List ℕ)). common_value value xs) (sym shown.1)
    ∙ (ap (λ s. run_of s words) (c.run_whole.ensures.system ∙ c.value_by_ends.ensures.system)
    ∙ ap (λ w. run_of c.args.plan.now.system w) (c.run_whole.ensures.words ∙ c.value_by_ends.ensures.words)))

pub returns-in-None-clause-value : goal.returns-in-None-clause-value
returns-in-None-clause-value g c =
    let value = worth_of (reward_kind c.args.reward.now) in
    let plan = c.run_whole.new.plan in
    let words = g.P.Past.words plan.past in
    let run_of = λ (s : SystemParts g.row.E.Denot) (w : ℕ → ℕ). value_at value s.split (system_functions g.E.EventLaw.function s w) s.caps c.args.horizon in
    let shown = shown-ended (λ (a : Area). c.states.result.now ≡ a.states) plan.system.split plan.system.caps (system_functions g.E.EventLaw.function plan.system words)
    c.args.horizon plan.run c.run_whole.ensures.run c.states.ensures.states in
    c.value_on_set.ensures ∙ (ap (λ (xs : List (List ℕ)). common_value value xs) shown
    ∙ (ap (λ s. run_of s words) (c.run_whole.ensures.system ∙ c.value_by_ends.ensures.system)
    ∙ ap (λ w. run_of c.args.plan.now.system w) (c.run_whole.ensures.words ∙ c.value_by_ends.ensures.words)))

-- Answers in the proof of `value_on_set`.
use Rattle.std.proofs.Common.{◌≡◌, ℕ, List, ap, sym, ◌∙◌, subst, arith, rules, Some}
use Rattle.std.proofs.lemmas.Int.{to_z-of_z}
use Rattle.psi_state.specs.Members.{In}
use Rattle.psi_reward.specs.Rewards.{reward_kind}
use Rattle.psi_reward.specs.Worth.{worth_of}
use Rattle.psi_couple.proofs.ValuingLemmas.{In-place, In-each, common_value-same}
use Rattle.psi_couple.proofs.value.value_on_set.Goals as goal
use mir.Syntax.{w64}
use mir.Val.{SFits, of_z, to_z}

pub value-requires : goal.value-requires
value-requires c =
    c.requires.within c.state-item.result
    (subst (λ (x : List ℕ). In x c.args.states.now) (sym c.state-item.is)
    (In-place c.args.states.now c.loop-state.state-index c.state-item.result c.loop-state-test.true))

pub returns : goal.returns
returns c =
    let states = c.args.states.now in
    let value = worth_of (reward_kind c.args.reward.now) in
    let first = c.index-states-0.result in
    let own = c.value-value.result in
    let fits : SFits w64 own = search rules in
    let back : to_z w64 (of_z w64 own) ≡ own = to_z-of_z w64 own fits in
    let member : In first states = subst (λ (x : List ℕ). In x states) (sym c.index-states-0.is) (In-place states 0 first c.requires.some) in
    let each = In-each (λ x. value x ≡ own) states first
    (λ k small. c.loop-state.invariant k first (omega (arith, c.loop-state-test.false)) ∙ back) in
    ap (λ z. Some z) back ∙ sym (common_value-same value own states first member each)

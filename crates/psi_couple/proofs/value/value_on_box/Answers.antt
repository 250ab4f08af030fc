-- Answers in the proof of `value_on_box`.
use Rattle.std.proofs.Common.{◌≡◌, Some, ap, sym, ◌∙◌, rules}
use Rattle.std.proofs.lemmas.Int.{to_z-of_z}
use Rattle.psi_state.specs.State.{box}
use Rattle.psi_reward.specs.Rewards.{reward_kind}
use Rattle.psi_reward.specs.Worth.{worth_of}
use Rattle.psi_couple.proofs.ValuingLemmas.{common_value-one, common_value-two}
use Rattle.psi_couple.proofs.value.value_on_box.Goals as goal
use mir.Syntax.{w64}
use mir.Val.{SFits, of_z, to_z}

pub returns-then-least-greatest : goal.returns-then-least-greatest
returns-then-least-greatest c =
    let range = c.range-least.ensures in
    common_value-two (worth_of (reward_kind c.args.reward.now)) (box c.args.bounds.now.lo c.args.bounds.now.hi) c.range-least.result.0 c.range-least.result.1
    range.least_reached range.greatest_reached (λ one. c.if-least-greatest.true (ap (λ z. of_z w64 z) one))

pub returns : goal.returns
returns c =
    let range = c.range-least.ensures in
    let low = c.range-least.result.0 in
    let high = c.range-least.result.1 in
    let low_fits : SFits w64 low = search rules in
    let high_fits : SFits w64 high = search rules in
    let low_back : to_z w64 (of_z w64 low) ≡ low = to_z-of_z w64 low low_fits in
    let high_back : to_z w64 (of_z w64 high) ≡ high = to_z-of_z w64 high high_fits in
    let one : low ≡ high = sym low_back ∙ (ap (λ n. to_z w64 n) c.if-least-greatest.false ∙ high_back) in
    ap (λ z. Some z) low_back
    ∙ common_value-one (worth_of (reward_kind c.args.reward.now)) (box c.args.bounds.now.lo c.args.bounds.now.hi) low high range.least range.greatest
    range.least_reached one

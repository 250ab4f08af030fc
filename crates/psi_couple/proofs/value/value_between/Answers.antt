-- Answers in the proof of `value_between`.
use Rattle.std.proofs.Common.{List, ℕ, Option, IfSome, Some, ap, sym, ◌∙◌, subst, rules}
use Rattle.std.proofs.lemmas.Int.{to_z-of_z}
use Rattle.psi_state.specs.State.{Corners, IsBelow}
use Rattle.psi_region.specs.Followed.{AreEnds}
use Rattle.psi_reward.specs.Rewards.{reward_caps, reward_kind}
use Rattle.psi_reward.specs.Worth.{worth_of}
use Rattle.psi_couple.proofs.ValuingLemmas.{ends-one, ends-two}
use Rattle.psi_couple.proofs.value.value_between.Goals as goal
use mir.Syntax.{w64}
use mir.Val.{SFits, of_z}

pub value_on_box-requires : goal.value_on_box-requires
value_on_box-requires c = subst (λ (o : Option Corners). IfSome o (λ b. IsBelow b.hi (reward_caps c.args.reward.now))) c.in_ok-ends.was c.requires

pub returns-in-Some : goal.returns-in-Some
returns-in-Some c states ends =
    let own = subst (λ (o : Option Corners). IfSome o (λ b. AreEnds b states)) c.in_ok-ends.was ends in
    let fits : SFits w64 c.in-Some.value = search rules in
    ap (λ z. Some z) (to_z-of_z w64 c.in-Some.value fits)
    ∙ ends-one (worth_of (reward_kind c.args.reward.now)) c.in_ok-ends.ends states c.in-Some.value own (sym c.in-Some.is ∙ c.value_on_box.ensures)

pub returns-then-value : goal.returns-then-value
returns-then-value c states ends =
    let value = worth_of (reward_kind c.args.reward.now) in
    let own = subst (λ (o : Option Corners). IfSome o (λ b. AreEnds b states)) c.in_ok-ends.was ends in
    ends-two value c.in_ok-ends.ends states own (λ tied. c.if-value.true (ap (λ z. of_z w64 z)
    (c.value.ensures ∙ (ap (λ (x : List ℕ). value x) c.lo-lo.ensures.value ∙ (tied ∙ (sym (ap (λ (x : List ℕ). value x) c.hi-hi.ensures.value) ∙ sym c.value-2.ensures))))))

-- Answers in the proof of `line::put_rewards`.
use Rattle.std.proofs.Common.{◌≡◌, ◌≤◌, ◌^◌, ◌∙◌, ◌++◌, ◌∷◌, ℕ, ℤ, List, All, take, ap, sym, subst, add-one, append_assoc, w64, to_z, of_z, SFits, rules, arith}
use Rattle.std.specs.Fmt.{signed_decimal}
use Rattle.std.specs.Int.RustNames.{unsigned_abs}
use Rattle.std.proofs.lemmas.Int.{ints, to_z-of_z}
use Rattle.psi_reward.specs.Worth.{worth_of}
use Rattle.psi_reward.specs.Rewards.{reward_kind}
use Rattle.psi_table.specs.Lines.{rewards_fields}
use Rattle.psi_table.proofs.LineLemmas.{rewards_more, kinds_more}
use Rattle.psi_table.proofs.line.put_rewards.Goals as goal

pub loop-reward-preserved : goal.loop-reward-preserved
loop-reward-preserved c =
    let kind = reward_kind c.reward.result.now in
    let state = c.args.state.now in
    let rewards = c.args.net.now.rewards in
    let fits : SFits w64 c.value.result = search rules in
    let value : to_z w64 (of_z w64 c.value.result) ≡ worth_of kind state = to_z-of_z w64 c.value.result fits ∙ c.value.ensures in
    let old = c.args.line.now.items in
    let i = c.loop-reward.reward in
    let piece = 44 ∷ signed_decimal (worth_of kind state) in
    let abs : unsigned_abs c.value.result ≤ 2 ^ 63 = omega (arith, ints) in
    let few : unsigned_abs (worth_of kind state) ≤ 2 ^ 63 = subst (λ (z : ℤ). unsigned_abs z ≤ 2 ^ 63) c.value.ensures abs in
    record {
      text = c.put_value.ensures.text ∙ ap (λ (z : ℤ). c.loop-reward.line.items ++ 44 ∷ signed_decimal z) value
          ∙ ap (λ (xs : List ℕ). xs ++ piece) c.loop-reward.invariant.text
          ∙ append_assoc old (rewards_fields state (take i rewards)) piece
          ∙ ap (λ (xs : List ℕ). old ++ xs) (rewards_more state rewards i kind c.reward.ensures.kind)
          ∙ ap (λ n. old ++ rewards_fields state (take n rewards)) (sym (add-one i));
      small = subst (λ n. All (λ r. unsigned_abs (worth_of r.kind state) ≤ 2 ^ 63) (take n rewards)) (sym (add-one i))
          (kinds_more (λ k. unsigned_abs (worth_of k state) ≤ 2 ^ 63) rewards i kind c.reward.ensures.kind few c.loop-reward.invariant.small);
      count = omega arith;
      room = omega arith;
    }

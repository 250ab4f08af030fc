-- The sum of each reward is turned, and its value kept.
use Rattle.std.specs.Prelude.{◌≡◌, ◌<◌, ◌≤◌, ◌^◌, ℤ, pos, ◌+ℤ◌, ◌-ℤ◌, ◌*ℤ◌, length, slice_index_or}
use Rattle.std.specs.Int.{w128}
use Rattle.std.specs.Int.RustNames.{unsigned_abs}
use Rattle.std.proofs.Common.{ap, sym, ◌∙◌, subst, SFits, w64, to_z, of_z, below_more, rules, arith}
use Rattle.std.proofs.lemmas.Int.{to_z-of_z}
use Rattle.std.proofs.lemmas.List.{get_or_default, length-set}
use Rattle.psi_path.specs.Sums.{worth_at}
use Rattle.psi_path.proofs.SetLemmas.{set_below, set_past}
use Rattle.psi_path.proofs.IntegerLemmas.{fits-abs, sum-fits}
use Rattle.psi_path.proofs.turning.turn_rewards.Goals as goal

pub overflow_add-index : goal.overflow_add-index
overflow_add-index g c =
    let r = c.loop-r.r in
    let small : r < length (g.R.Rewards.worths c.args.rewards.now) = omega (arith, c.loop-r-test.true, c.count-r-end.ensures) in
    let read : c.index.result.now ≡ slice_index_or c.args.sums.now.items r (pos 0) =
    c.index.ensures ∙ get_or_default c.loop-r.sums.items r c.index.result.now (pos 0) (omega arith) ∙ c.loop-r.invariant.kept r (omega arith) in
    let few : unsigned_abs c.index.result.now ≤ 2 ^ 96 = subst (λ (z : ℤ). unsigned_abs z ≤ 2 ^ 96) (sym read) (c.requires.few r small) in
    let sum_fits : SFits w128 c.index.result.now = search rules in
    let rise_fits : SFits w128 c.rise.result = search rules in
    let both = sum-fits c.index.result.now c.rise.result few c.rise.ensures.few in
    simp to_z-of_z both

pub loop-r-preserved : goal.loop-r-preserved
loop-r-preserved g c =
    let r = c.loop-r.r in
    let worths = g.R.Rewards.worths c.args.rewards.now in
    let small : r < length worths = omega (arith, c.loop-r-test.true, c.count-r-end.ensures) in
    let value_fits : SFits w64 c.value-value.result = search rules in
    let before_fits : SFits w64 c.index-in-loop-r.result.now = search rules in
    let sum_fits : SFits w128 c.index.result.now = search rules in
    let rise_fits : SFits w128 c.rise.result = search rules in
    let read : c.index.result.now ≡ slice_index_or c.args.sums.now.items r (pos 0) =
    c.index.ensures ∙ get_or_default c.loop-r.sums.items r c.index.result.now (pos 0) (omega arith) ∙ c.loop-r.invariant.kept r (omega arith) in
    let before : c.index-in-loop-r.result.now ≡ slice_index_or c.args.values.now.items r (pos 0) =
    c.index-in-loop-r.ensures ∙ get_or_default c.loop-r.values.items r c.index-in-loop-r.result.now (pos 0) (omega arith) ∙ c.loop-r.invariant.kept_values r (omega arith) in
    let few : unsigned_abs c.index.result.now ≤ 2 ^ 96 = subst (λ (z : ℤ). unsigned_abs z ≤ 2 ^ 96) (sym read) (c.requires.few r small) in
    let both_fit = sum-fits c.index.result.now c.rise.result few c.rise.ensures.few in
    let value : to_z w64 (of_z w64 c.value-value.result) ≡ worth_at worths r c.args.state.now = to_z-of_z w64 c.value-value.result value_fits ∙ c.value-value.ensures in
    let was : to_z w64 (of_z w64 c.index-in-loop-r.result.now) ≡ slice_index_or c.args.values.now.items r (pos 0) = to_z-of_z w64 c.index-in-loop-r.result.now before_fits ∙ before in
    let rise : c.rise.result ≡ pos c.args.left *ℤ (worth_at worths r c.args.state.now -ℤ slice_index_or c.args.values.now.items r (pos 0)) =
    c.rise.ensures.value
    ∙ ap (λ z. pos c.args.left *ℤ (z -ℤ to_z w64 (of_z w64 c.index-in-loop-r.result.now))) value
    ∙ ap (λ z. pos c.args.left *ℤ (worth_at worths r c.args.state.now -ℤ z)) was in
    let plain : to_z w128 (of_z w128 (to_z w128 (of_z w128 c.index.result.now) +ℤ to_z w128 (of_z w128 c.rise.result))) ≡ c.index.result.now +ℤ c.rise.result = simp to_z-of_z in
    let turned : to_z w128 (of_z w128 (to_z w128 (of_z w128 c.index.result.now) +ℤ to_z w128 (of_z w128 c.rise.result)))
    ≡ slice_index_or c.args.sums.now.items r (pos 0) +ℤ (pos c.args.left *ℤ (worth_at worths r c.args.state.now -ℤ slice_index_or c.args.values.now.items r (pos 0))) =
    plain ∙ ap (λ z. z +ℤ c.rise.result) read ∙ ap (λ z. slice_index_or c.args.sums.now.items r (pos 0) +ℤ z) rise in
    record {
      sized = length-set c.loop-r.sums.items r _ ∙ c.loop-r.invariant.sized;
      valued = length-set c.loop-r.values.items r _ ∙ c.loop-r.invariant.valued;
      turned = set_below (λ k z. z ≡ slice_index_or c.args.sums.now.items k (pos 0) +ℤ (pos c.args.left *ℤ (worth_at worths k c.args.state.now -ℤ slice_index_or c.args.values.now.items k (pos 0))))
          c.loop-r.sums.items r _ (pos 0) (omega arith) c.loop-r.invariant.turned turned;
      present = set_below (λ k z. z ≡ worth_at worths k c.args.state.now) c.loop-r.values.items r _ (pos 0) (omega arith) c.loop-r.invariant.present value;
      small = below_more _ _ c.loop-r.invariant.small
          (subst (λ (z : ℤ). unsigned_abs z ≤ 2 ^ 63) c.value-value.ensures (fits-abs c.value-value.result value_fits));
      kept = λ k past. set_past c.loop-r.sums.items r k _ (pos 0) (omega arith) ∙ c.loop-r.invariant.kept k (omega arith);
      kept_values = λ k past. set_past c.loop-r.values.items r k _ (pos 0) (omega arith) ∙ c.loop-r.invariant.kept_values k (omega arith);
    }

-- The sum of one reward more is written.
use Rattle.std.specs.Prelude.{◌≡◌, ◌-◌, ℤ, List, pos, length, map, slice_index, slice_index_or}
use Rattle.std.proofs.Common.{ap, ◌∙◌, SFits, w64, rules, arith}
use Rattle.std.proofs.lemmas.Int.{to_z-of_z}
use Rattle.std.proofs.lemmas.List.{length-set}
use Rattle.psi_follow_packed.specs.Views.{low_word}
use Rattle.psi_path.specs.Sums.{Sums, worth_at}
use Rattle.psi_path.proofs.SetLemmas.{set_below}
use Rattle.psi_path_packed.specs.Rises.{total_of}
use Rattle.psi_path_packed.specs.Walker.{rise_of}
use Rattle.psi_path_packed.proofs.TotalLemmas.{total-plain}
use Rattle.psi_path_packed.proofs.totals.put_rewards.Goals as goal

pub loop-r-preserved : goal.loop-r-preserved
loop-r-preserved g c =
    let put = c.put_reward.ensures in
    let kept = c.loop-r.invariant in
    let r = c.loop-r.r in
    let worths = g.R.Rewards.worths c.args.rewards.now in
    let value_fits : SFits w64 c.value.result = search rules in
    let own = total-plain c.args.steps (length c.args.changes.now - 1) _ (length worths) r c.args.rises.now (slice_index (map low_word c.args.changes.now)) _ _ _ _
    c.at_all_times-first.ensures.value (to_z-of_z w64 c.value.result value_fits ∙ c.value.ensures) c.at_all_times-first.ensures.few c.risen.ensures.value c.count-count.ensures c.risen.ensures.few in
    let rewards = ap (λ (w : Sums). w.rewards) put in
    record {
      count = ap (λ (zs : List ℤ). length zs) rewards ∙ length-set c.loop-r.walk.rewards r _ ∙ kept.count;
      sums = λ k small. ap (λ (zs : List ℤ). slice_index_or zs k (pos 0)) rewards
          ∙ set_below (λ j z. z ≡ total_of (worth_at worths j c.args.start.now) c.args.steps (rise_of c.args.rises.now (length worths) j) (slice_index (map low_word c.args.changes.now)) (length c.args.changes.now - 1))
          c.loop-r.walk.rewards r _ (pos 0) (let a = kept.count in let b = c.requires.rewards in omega arith) kept.sums own k small;
      queues = ap (λ (w : Sums). w.queues) put ∙ kept.queues;
      chosen = ap (λ (w : Sums). w.chosen) put ∙ kept.chosen;
      changed = ap (λ (w : Sums). w.changed) put ∙ kept.changed;
    }

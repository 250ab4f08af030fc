-- The sum of one queue more is written.
use Rattle.std.specs.Prelude.{◌≡◌, ◌<◌, ◌-◌, ℕ, ℤ, List, pos, length, map, slice_index}
use Rattle.std.specs.Int.RustNames.{unsigned_abs}
use Rattle.std.proofs.Common.{ap, sym, ◌∙◌, w64, rules, arith}
use Rattle.std.proofs.lemmas.Int.{to_z_pos}
use Rattle.std.proofs.lemmas.List.{length-set}
use Rattle.psi_follow_packed.specs.Views.{low_word}
use Rattle.psi_path.specs.Sums.{Sums}
use Rattle.psi_path.proofs.SetLemmas.{set_below}
use Rattle.psi_path_packed.specs.Rises.{total_of}
use Rattle.psi_path_packed.specs.Walker.{rise_of}
use Rattle.psi_path_packed.proofs.TotalLemmas.{total-plain}
use Rattle.psi_path_packed.proofs.totals.put_customers.Goals as goal

pub overflow_cast-sum : goal.overflow_cast-sum
overflow_cast-sum c =
    let test : c.loop-q.q < length c.args.start.now = omega (arith, c.loop-q-test.true, c.len-count.ensures.value) in
    let held = c.get.type_inv in
    let own = total-plain c.args.steps (length c.args.changes.now - 1) _ (length c.args.start.now) c.loop-q.q c.args.rises.now (slice_index (map low_word c.args.changes.now)) _ _ _ _
    c.at_all_times-first.ensures.value (to_z_pos w64 c.get.result (omega arith) ∙ ap pos c.get.ensures) c.at_all_times-first.ensures.few c.risen.ensures.value c.len-count.ensures.value c.risen.ensures.few in
    let few = (c.requires.sums c.loop-q.q test).few in
    rw (own ∙ (c.requires.sums c.loop-q.q test).is) (search rules)

pub loop-q-preserved : goal.loop-q-preserved
loop-q-preserved c =
    let q = c.loop-q.q in
    let start = c.args.start.now in
    let test : q < length start = omega (arith, c.loop-q-test.true, c.len-count.ensures.value) in
    let held = c.get.type_inv in
    let own = total-plain c.args.steps (length c.args.changes.now - 1) _ (length start) q c.args.rises.now (slice_index (map low_word c.args.changes.now)) _ _ _ _
    c.at_all_times-first.ensures.value (to_z_pos w64 c.get.result (omega arith) ∙ ap pos c.get.ensures) c.at_all_times-first.ensures.few c.risen.ensures.value c.len-count.ensures.value c.risen.ensures.few
    ∙ (c.requires.sums q test).is in
    let put = c.put_customers.ensures in
    let kept = c.loop-q.invariant in
    let queues = ap (λ (w : Sums). w.queues) put in
    let value = ap (λ (z : ℤ). pos (unsigned_abs z)) own ∙ sym (c.requires.sums q test).is in
    record {
      count = ap (λ (ns : List ℕ). length ns) queues ∙ length-set c.loop-q.walk.queues q _ ∙ kept.count;
      sums = λ k small. ap (λ (ns : List ℕ). pos (slice_index ns k)) queues
          ∙ set_below (λ j n. pos n ≡ total_of (pos (slice_index start j)) c.args.steps (rise_of c.args.rises.now (length start) j) (slice_index (map low_word c.args.changes.now)) (length c.args.changes.now - 1))
          c.loop-q.walk.queues q _ 0 (let a = kept.count in let b = c.requires.queues in omega arith) kept.sums value k small;
      rewards = ap (λ (w : Sums). w.rewards) put ∙ kept.rewards;
      chosen = ap (λ (w : Sums). w.chosen) put ∙ kept.chosen;
      changed = ap (λ (w : Sums). w.changed) put ∙ kept.changed;
    }

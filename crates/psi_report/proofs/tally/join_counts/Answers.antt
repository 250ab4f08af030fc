-- Each count becomes a sum, which fits.
use Rattle.std.proofs.Common.{◌≡◌, ℕ, ◌+◌, ◌∙◌, ap, length, get_or, arith}
use Rattle.std.proofs.lemmas.List.{get_or_default}
use Rattle.psi_report.proofs.PairLemmas.{length_paired, get_or-paired, paired_more}
use Rattle.psi_report.proofs.tally.join_counts.Goals as goal

pub overflow_add-own : goal.overflow_add-own
overflow_add-own c =
    let same : get_or c.loop-place.own c.loop-place.place 0 ≡ get_or c.args.own.now c.loop-place.place 0 =
    ap (λ ns. get_or ns c.loop-place.place 0) c.loop-place.invariant ∙ get_or-paired {A = ℕ} {B = ℕ} (λ m n. m + n) c.args.own.now c.args.other.now c.loop-place.place 0 in
    let few = c.requires c.loop-place.place in
    omega arith

pub loop-place-preserved : goal.loop-place-preserved
loop-place-preserved c =
    let sized : length c.loop-place.own ≡ length c.args.own.now = ap length c.loop-place.invariant ∙ length_paired {A = ℕ} {B = ℕ} (λ m n. m + n) c.args.own.now _ in
    paired_more {A = ℕ} {B = ℕ} (λ m n. m + n) c.args.own.now c.loop-place.own c.args.other.now c.loop-place.place
    (get_or c.loop-place.own c.loop-place.place 0) (get_or c.args.other.now c.loop-place.place 0) (omega arith) (omega arith) c.loop-place.invariant
    (get_or_default c.loop-place.own c.loop-place.place 0 _ (omega arith)) (get_or_default c.args.other.now c.loop-place.place 0 _ (omega arith))

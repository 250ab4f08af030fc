-- Answers in the proof of `row_ends`.
use Rattle.std.specs.Prelude.{◌≡◌, ◌+◌}
use Rattle.std.specs.Int.{int_min, int_max}
use Rattle.std.proofs.Common.{ap, ◌∙◌, arith, w32, to_z, of_z}
use Rattle.std.proofs.lemmas.Int.{ints}
use Rattle.psi_reward.specs.Sums.{entry}
use Rattle.psi_reward.proofs.AddingLemmas.{span-same, span-more}
use Rattle.psi_reward.proofs.sums.row_ends.Goals as goal

pub loop-number-preserved : goal.loop-number-preserved
loop-number-preserved c =
    let least : to_z w32 (of_z w32 c.min-least.result) ≡ c.min-least.result = omega (arith, ints) in
    let greatest : to_z w32 (of_z w32 c.max-greatest.result) ≡ c.max-greatest.result = omega (arith, ints) in
    let next : to_z w32 (of_z w32 c.get-next.result) ≡ entry c.args.row.now (c.loop-number.number + 1) = (omega (arith, ints) ∙ c.get-next.ensures) in
    record {
      span = span-same (entry c.args.row.now) _ _ _ _ _ _ (least ∙ (c.min-least.ensures.value ∙ ap (λ z. int_min (to_z w32 c.loop-number.least-bits) z) next))
          (greatest ∙ (c.max-greatest.ensures.value ∙ ap (λ z. int_max (to_z w32 c.loop-number.greatest-bits) z) next))
          (span-more (entry c.args.row.now) c.args.low c.loop-number.number (to_z w32 c.loop-number.least-bits) (to_z w32 c.loop-number.greatest-bits) (omega arith) c.loop-number.invariant.span);
    }

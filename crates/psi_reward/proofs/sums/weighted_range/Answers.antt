-- Answers in the proof of `weighted_range`.
use Rattle.std.specs.Prelude.{◌≡◌, pos, ◌-◌, ◌+ℤ◌, length, slice_index, slice_index_or}
use Rattle.std.proofs.Common.{ap, ◌∙◌, arith, w32, w64, to_z, of_z}
use Rattle.std.proofs.lemmas.Int.{ints}
use Rattle.psi_reward.specs.Sums.{weighted}
use Rattle.psi_reward.specs.Spans.{IsSpan}
use Rattle.psi_reward.proofs.WholeLemmas.{few-step}
use Rattle.psi_reward.proofs.AddingLemmas.{span-at, spread-start, spread-step, spread-whole, spread-same}
use Rattle.psi_reward.proofs.sums.weighted_range.Goals as goal

pub loop-place-preserved : goal.loop-place-preserved
loop-place-preserved c =
    let low : to_z w64 (of_z w64 (to_z w64 (of_z w64 c.weighted_ends-low.result.0) +ℤ to_z w64 c.loop-place.least-bits)) ≡ c.weighted_ends-low.result.0 +ℤ to_z w64 c.loop-place.least-bits = omega (arith, ints) in
    let high : to_z w64 (of_z w64 (to_z w64 (of_z w64 c.weighted_ends-low.result.1) +ℤ to_z w64 c.loop-place.greatest-bits)) ≡ c.weighted_ends-low.result.1 +ℤ to_z w64 c.loop-place.greatest-bits = omega (arith, ints) in
    let weight : to_z w32 (of_z w32 c.get-weight.result) ≡ c.get-weight.result = omega (arith, ints) in
    let span : IsSpan (weighted (slice_index_or c.args.weights.now (c.loop-place.place - 1) (pos 0)))
    (slice_index c.args.lo.now (slice_index c.args.queues.now (c.loop-place.place - 1))) (slice_index c.args.hi.now (slice_index c.args.queues.now (c.loop-place.place - 1)))
    c.weighted_ends-low.result.0 c.weighted_ends-low.result.1 =
    span-at weighted _ _ _ _ _ _ _ _ (weight ∙ c.get-weight.ensures)
    (c.get.ensures ∙ ap (λ q. slice_index c.args.lo.now q) c.get-queue.ensures)
    (c.get-in-loop-place.ensures ∙ ap (λ q. slice_index c.args.hi.now q) c.get-queue.ensures)
    c.weighted_ends-low.ensures.span in
    record {
      spread = spread-same _ _ _ _ _ _ _ low high (spread-step weighted c.args.weights.now (pos 0) c.args.queues.now c.args.lo.now c.args.hi.now c.loop-place.place
          c.weighted_ends-low.result.0 c.weighted_ends-low.result.1 (to_z w64 c.loop-place.least-bits) (to_z w64 c.loop-place.greatest-bits)
          (omega arith) (omega arith) c.requires.lengths span c.loop-place.invariant.spread);
      least_few = few-step c.loop-place.place (length c.args.queues.now) _ c.weighted_ends-low.result.0 (to_z w64 c.loop-place.least-bits) low c.weighted_ends-low.ensures.least_few (omega arith) c.loop-place.invariant.least_few;
      greatest_few = few-step c.loop-place.place (length c.args.queues.now) _ c.weighted_ends-low.result.1 (to_z w64 c.loop-place.greatest-bits) high c.weighted_ends-low.ensures.greatest_few (omega arith) c.loop-place.invariant.greatest_few;
    }

pub returns : goal.returns
returns c =
    spread-whole weighted c.args.weights.now c.args.queues.now c.args.lo.now c.args.hi.now c.loop-place.place _ _ (omega arith) c.loop-place.invariant.spread

pub loop-place-init : goal.loop-place-init
loop-place-init c = record {
  spread = spread-start weighted c.args.weights.now c.args.queues.now c.args.lo.now c.args.hi.now c.len-place.result c.len-place.ensures.value c.requires.lengths;
  least_few = omega arith;
  greatest_few = omega arith;
}

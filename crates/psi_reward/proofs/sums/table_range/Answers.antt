-- Answers in the proof of `table_range`.
use Rattle.std.specs.Prelude.{◌≡◌, ◌-◌, ◌+ℤ◌, [], slice_index, slice_index_or}
use Rattle.std.proofs.Common.{ap, ◌∙◌, arith, w32, w64, to_z, of_z}
use Rattle.std.proofs.lemmas.Int.{ints}
use Rattle.psi_reward.specs.Sums.{entry}
use Rattle.psi_reward.specs.Spans.{IsSpan}
use Rattle.psi_reward.proofs.AddingLemmas.{span-at, spread-start, spread-step, spread-whole, spread-same}
use Rattle.psi_reward.proofs.sums.table_range.Goals as goal

pub loop-place-init : goal.loop-place-init
loop-place-init c = record {
  spread = spread-start entry c.args.table.now c.args.queues.now c.args.lo.now c.args.hi.now c.len-place.result c.len-place.ensures.value c.requires.lengths;
  least_few = omega arith;
  greatest_few = omega arith;
}

pub loop-place-preserved : goal.loop-place-preserved
loop-place-preserved c =
    let low : to_z w64 (of_z w64 (to_z w64 (of_z w64 (to_z w32 (of_z w32 c.row_ends-low.result.0))) +ℤ to_z w64 c.loop-place.least-bits)) ≡ c.row_ends-low.result.0 +ℤ to_z w64 c.loop-place.least-bits = omega (arith, ints) in
    let high : to_z w64 (of_z w64 (to_z w64 (of_z w64 (to_z w32 (of_z w32 c.row_ends-low.result.1))) +ℤ to_z w64 c.loop-place.greatest-bits)) ≡ c.row_ends-low.result.1 +ℤ to_z w64 c.loop-place.greatest-bits = omega (arith, ints) in
    let span : IsSpan (entry (slice_index_or c.args.table.now (c.loop-place.place - 1) []))
    (slice_index c.args.lo.now (slice_index c.args.queues.now (c.loop-place.place - 1))) (slice_index c.args.hi.now (slice_index c.args.queues.now (c.loop-place.place - 1)))
    c.row_ends-low.result.0 c.row_ends-low.result.1 =
    span-at entry _ _ _ _ _ _ _ _ c.get-row.ensures
    (c.get.ensures ∙ ap (λ q. slice_index c.args.lo.now q) c.get-queue.ensures)
    (c.get-in-loop-place.ensures ∙ ap (λ q. slice_index c.args.hi.now q) c.get-queue.ensures)
    c.row_ends-low.ensures.span in
    record {
      spread = spread-same _ _ _ _ _ _ _ low high (spread-step entry c.args.table.now [] c.args.queues.now c.args.lo.now c.args.hi.now c.loop-place.place
          c.row_ends-low.result.0 c.row_ends-low.result.1 (to_z w64 c.loop-place.least-bits) (to_z w64 c.loop-place.greatest-bits)
          (omega arith) (omega arith) c.requires.lengths span c.loop-place.invariant.spread);
      least_few = omega (arith, ints);
      greatest_few = omega (arith, ints);
    }

pub returns : goal.returns
returns c =
    spread-whole entry c.args.table.now c.args.queues.now c.args.lo.now c.args.hi.now c.loop-place.place _ _ (omega arith) c.loop-place.invariant.spread

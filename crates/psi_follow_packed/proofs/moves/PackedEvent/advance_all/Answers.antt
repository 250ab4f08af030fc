use Rattle.std.proofs.Common.{◌∙◌, length-set, arith}
use Rattle.psi_follow_packed.specs.Views.{low_words, high_words, low_word, high_word, moving_by}
use Rattle.psi_follow_packed.specs.Moves.{IsMoved}
use Rattle.psi_follow_packed.proofs.SteppingLemmas.{pairs-step, pairs-wait}
use Rattle.psi_follow_packed.proofs.moves.PackedEvent.advance_all.Goals as goal

pub loop-x-preserved : goal.loop-x-preserved
loop-x-preserved g c =
    let own = c.args.self.now in
    let old = c.args.list.now in
    let now = c.loop-x.list in
    let at = c.loop-x.x-index in
    let kept = c.loop-x.invariant in
    record {
      count = length-set now at c.advance_by.new.x ∙ kept.count;
      low = pairs-step (λ x y. IsMoved g.row.K (moving_by low_word own) (low_words x) (low_words y)) old now at c.x-item.result c.advance_by.new.x (omega (arith, kept.count, c.loop-x-test.true)) kept.low kept.waiting c.advance_by.ensures.low;
      high = pairs-step (λ x y. IsMoved g.row.K (moving_by high_word own) (high_words x) (high_words y)) old now at c.x-item.result c.advance_by.new.x (omega (arith, kept.count, c.loop-x-test.true)) kept.high kept.waiting c.advance_by.ensures.high;
      waiting = pairs-wait old now at c.advance_by.new.x kept.waiting;
    }

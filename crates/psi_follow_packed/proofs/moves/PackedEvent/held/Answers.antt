use Rattle.std.proofs.Common.{◌≡◌, ap, ◌∙◌, arith}
use Rattle.psi_follow_packed.specs.Views.{low_words, high_words, low_word, high_word, masks_by}
use Rattle.psi_follow_packed.specs.Moves.{holds}
use Rattle.psi_follow_packed.proofs.MovingLemmas.{ones}
use Rattle.psi_follow_packed.proofs.PairingLemmas.{low-at, high-at, ones-more}
use Rattle.psi_follow_packed.proofs.moves.PackedEvent.held.Goals as goal

pub loop-at-preserved : goal.loop-at-preserved
loop-at-preserved g c =
    let at = c.loop-at.at in
    let x = c.args.x.now.pairs in
    let offsets = c.args.self.now.offsets in
    let kept = c.loop-at.invariant in
    record {
      low = ones-more at (low_words offsets) (masks_by low_word c.args.masks.now) (low_words c.args.x.now) _ _ _ _ _ _ kept.low c.plus-raised.ensures.low (low-at x at) (low-at offsets.pairs at)
          c.held_at.ensures.low c.and-held.ensures.low;
      high = ones-more at (high_words offsets) (masks_by high_word c.args.masks.now) (high_words c.args.x.now) _ _ _ _ _ _ kept.high c.plus-raised.ensures.high (high-at x at) (high-at offsets.pairs at)
          c.held_at.ensures.high c.and-held.ensures.high;
    }

pub returns-clause-low : goal.returns-clause-low
returns-clause-low g c =
    let all : c.loop-at.at ≡ g.row.K = omega arith in
    c.loop-at.invariant.low ∙ ap (λ n. ones (holds n (low_words c.args.self.now.offsets) (masks_by low_word c.args.masks.now) (low_words c.args.x.now))) all

pub returns-clause-high : goal.returns-clause-high
returns-clause-high g c =
    let all : c.loop-at.at ≡ g.row.K = omega arith in
    c.loop-at.invariant.high ∙ ap (λ n. ones (holds n (high_words c.args.self.now.offsets) (masks_by high_word c.args.masks.now) (high_words c.args.x.now))) all

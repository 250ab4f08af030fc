use Rattle.std.proofs.Common.{◌≡◌, ◌<◌, ap, ◌∙◌, arith, nat_eq}
use Rattle.psi_follow_packed.specs.Views.{low_words, high_words, low_word, high_word, masks_by, moving_by}
use Rattle.psi_follow_packed.specs.Moves.{holds}
use Rattle.psi_follow_packed.proofs.MovingLemmas.{ones}
use Rattle.psi_follow_packed.proofs.PairingLemmas.{low-at, high-at}
use Rattle.psi_follow_packed.proofs.LoweringLemmas.{none-more}
use Rattle.psi_follow_packed.proofs.moves.PackedEvent.none_up.Goals as goal

pub loop-at-preserved : goal.loop-at-preserved
loop-at-preserved g c =
    let at = c.loop-at.at in
    let x = c.args.x.now.pairs in
    let event = c.args.self.now in
    let kept = c.loop-at.invariant in
    let small : at < g.row.K = c.loop-at-test.true in
    record {
      low = none-more g.row.K at (moving_by low_word event) (low_words c.args.x.now) _ _ _ _ _ _ _ c.requires.low small kept.low c.plus-raised.ensures.low (low-at x at) (low-at event.lowered.pairs at)
          c.and.ensures.low (low-at event.first.guards.pairs at) c.or-up.ensures.low;
      high = none-more g.row.K at (moving_by high_word event) (high_words c.args.x.now) _ _ _ _ _ _ _ c.requires.high small kept.high c.plus-raised.ensures.high (high-at x at)
          (high-at event.lowered.pairs at) c.and.ensures.high (high-at event.first.guards.pairs at) c.or-up.ensures.high;
    }

pub returns-clause-low : goal.returns-clause-low
returns-clause-low g c =
    let all : c.loop-at.at ≡ g.row.K = omega arith in
    c.ones_if_equal.ensures.low ∙ ap (λ n. ones (nat_eq (low_word c.loop-at.up) n)) c.twice.ensures.low ∙ ap ones c.loop-at.invariant.low
    ∙ ap (λ n. ones (holds n (low_words c.args.self.now.offsets) (masks_by low_word c.args.self.now.first) (low_words c.args.x.now))) all

pub returns-clause-high : goal.returns-clause-high
returns-clause-high g c =
    let all : c.loop-at.at ≡ g.row.K = omega arith in
    c.ones_if_equal.ensures.high ∙ ap (λ n. ones (nat_eq (high_word c.loop-at.up) n)) c.twice.ensures.high ∙ ap ones c.loop-at.invariant.high
    ∙ ap (λ n. ones (holds n (high_words c.args.self.now.offsets) (masks_by high_word c.args.self.now.first) (high_words c.args.x.now))) all

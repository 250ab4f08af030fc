use Rattle.std.proofs.Common.{ap, ◌∙◌, arith}
use Rattle.psi_follow_packed.specs.Views.{low_words, high_words}
use Rattle.psi_follow_packed.specs.declared.pairs.PackedPair.{PackedPair}
use Rattle.psi_follow_sets.specs.Inner.HalvesKept.{words_of_first}
use Rattle.psi_follow_sets.proofs.HalvingLemmas.{gather-more}
use Rattle.psi_follow_sets.proofs.gathering.gather.Goals as goal

pub loop-pair-preserved : goal.loop-pair-preserved
loop-pair-preserved g c =
    let one = c.keep-count in
    let other = c.keep-count-in-loop-pair in
    let kept = c.loop-pair.invariant in
    record {
      members = gather-more c.args.list.now c.loop-pair.pair-index c.pair-item.result (words_of_first c.loop-pair.count c.loop-pair.out) (words_of_first one.result one.new.out)
          (words_of_first other.result other.new.out) c.low.result.words c.high.result.words c.loop-pair-test.true (c.low.ensures ∙ ap (λ (q : PackedPair g.row.K). low_words q) c.pair-item.is) (c.high.ensures ∙ ap (λ (q : PackedPair g.row.K). high_words q) c.pair-item.is)
          kept.members one.ensures.members other.ensures.members;
      fewer = omega (arith, one.ensures.fewer, other.ensures.fewer, kept.fewer);
      room = other.ensures.room ∙ one.ensures.room ∙ kept.room;
      slots = other.ensures.slots ∙ one.ensures.slots ∙ kept.slots;
      places = other.ensures.places;
    }

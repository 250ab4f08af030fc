use Rattle.std.proofs.Common.{ap, ◌∙◌, arith}
use Rattle.psi_follow_packed.specs.Views.{low_words, high_words}
use Rattle.psi_follow_packed.specs.declared.pairs.PackedPair.{PackedPair}
use Rattle.psi_follow_sets.proofs.HalvingLemmas.{all-more, all-same, two-differ}
use Rattle.psi_follow_sets.proofs.gathering.only.Goals as goal

pub returns-then-not-is : goal.returns-then-not-is
returns-then-not-is g c =
    two-differ c.args.list.now c.loop-pair.pair-index c.pair-item.result c.index-list-0.result c.low-first.result.words c.low.result.words c.high.result.words
    c.is.result c.is-in-loop-pair.result c.loop-pair-test.true (c.low-first.ensures ∙ ap (λ (q : PackedPair g.row.K). low_words q) c.index-list-0.is) (c.low.ensures ∙ ap (λ (q : PackedPair g.row.K). low_words q) c.pair-item.is) (c.high.ensures ∙ ap (λ (q : PackedPair g.row.K). high_words q) c.pair-item.is) c.is.ensures.1 c.is-in-loop-pair.ensures.1 c.if-not-is.true

pub loop-pair-preserved : goal.loop-pair-preserved
loop-pair-preserved g c =
    all-more c.args.list.now c.loop-pair.pair-index c.pair-item.result c.low-first.result.words c.low.result.words c.high.result.words
    c.is.result c.is-in-loop-pair.result c.loop-pair-test.true (c.low.ensures ∙ ap (λ (q : PackedPair g.row.K). low_words q) c.pair-item.is) (c.high.ensures ∙ ap (λ (q : PackedPair g.row.K). high_words q) c.pair-item.is) c.is.ensures.0 c.is-in-loop-pair.ensures.0 c.if-not-is.false c.loop-pair.invariant

pub returns : goal.returns
returns g c =
    all-same c.args.list.now c.loop-pair.pair-index c.index-list-0.result c.low-first.result.words c.requires (omega arith) (c.low-first.ensures ∙ ap (λ (q : PackedPair g.row.K). low_words q) c.index-list-0.is) c.loop-pair.invariant

use Rattle.std.proofs.Common.{◌≡◌, slice_index, sym, ◌∙◌, below_more}
use Rattle.std.proofs.lemmas.Bool.{true≢false}
use Rattle.psi_follow_packed.specs.Views.{low_words}
use Rattle.psi_follow_packed.proofs.PairingLemmas.{low-at}
use Rattle.psi_follow_packed.proofs.moves.Masks.changes_nothing.Goals as goal

pub returns-then-low-ne0 : goal.returns-then-low-ne0
returns-then-low-ne0 g c =
    let at = c.loop-at.at in
    let change = c.args.self.now.change in
    (λ no. absurd (true≢false (sym no)), λ nothing. absurd (c.if-low-ne0.true (c.low.ensures ∙ low-at change.pairs at ∙ nothing at c.loop-at-test.true)))

pub loop-at-preserved : goal.loop-at-preserved
loop-at-preserved g c =
    let at = c.loop-at.at in
    let change = c.args.self.now.change in
    below_more (λ w. slice_index (low_words change) w ≡ 0) at c.loop-at.invariant (sym (low-at change.pairs at) ∙ sym c.low.ensures ∙ c.if-low-ne0.false)

use Rattle.std.proofs.Common.{ℕ, List, sym, subst}
use Rattle.psi_state.specs.State.{box}
use Rattle.psi_state.specs.Sets.{image}
use Rattle.psi_state.specs.Hull.{corners}
use Rattle.psi_follow_packed.specs.UnitEvents.{unit_masks}
use Rattle.psi_follow_packed.specs.Views.{low_words, high_words}
use Rattle.psi_follow_packed.specs.Boxes.{AreCorners}
use Rattle.psi_follow_packed.specs.Inner.FillingKept.{AreSums}
use Rattle.psi_follow_packed.proofs.UnitWordsLemmas.{AreUps, told-misses, told-can, stays, passes}
use Rattle.psi_follow_packed.proofs.unit_events.UnitEvent.enclose.Goals as goal

pub returns-then-misses : goal.returns-then-misses
returns-then-misses g c = λ p f unit lo hi begun.
    let m = unit_masks {K = g.row.K} c.args.self.now in
    stays g.row.K p f m unit lo hi (low_words c.args.x.now) (high_words c.args.x.now) begun
    (told-misses g.row.K p f m unit lo hi (low_words c.args.x.now) (high_words c.args.x.now) _ _ c.up_in.result.words c.up_in-2.result.words begun c.low-low.ensures c.high-high.ensures
    c.up_in.ensures.long c.up_in-2.ensures.long c.up_in.ensures.each c.up_in-2.ensures.each c.misses.result c.misses.ensures c.if-misses.true)

pub returns : goal.returns
returns g c = λ p f unit lo hi begun.
    let m = unit_masks {K = g.row.K} c.args.self.now in
    let low = low_words c.args.x.now in
    let high = high_words c.args.x.now in
    let can = told-can g.row.K p f m unit lo hi low high _ _ c.up_in.result.words c.up_in-2.result.words begun c.low-low.ensures c.high-high.ensures
    c.up_in.ensures.long c.up_in-2.ensures.long c.up_in.ensures.each c.up_in-2.ensures.each c.misses.result c.misses.ensures c.if-misses.false in
    let b = corners (image f (box lo hi)) in
    subst (λ (l : List ℕ). AreCorners g.row.K p l (high_words c.of.result) b.lo b.hi) (sym c.of.ensures.low)
    (subst (λ (h : List ℕ). AreCorners g.row.K p c.difference-low_after.result.words h b.lo b.hi) (sym c.of.ensures.high)
    (passes g.row.K p f m unit lo hi low high begun can c.up_in-full.result.words c.up_in-busy.result.words c.difference.result.words c.plus.result.words c.alone-alone.result.words
    c.and.result.words c.plus-kept.result.words c.and-2.result.words c.plus-2.result.words c.difference-low_after.result.words c.plus-3.result.words c.difference-high_after.result.words
    (subst (λ (l : List ℕ). AreUps g.row.K m l m.ups c.up_in-full.result.words) c.high-high.ensures c.up_in-full.ensures.each)
    (subst (λ (l : List ℕ). AreUps g.row.K m l m.downs c.up_in-busy.result.words) c.low-low.ensures c.up_in-busy.ensures.each)
    c.difference.ensures.each c.plus.ensures c.alone-alone.ensures c.and.ensures c.plus-kept.ensures c.and-2.ensures
    (subst (λ (l : List ℕ). AreSums g.row.K l c.and-2.result.words c.plus-2.result.words) c.low-low.ensures c.plus-2.ensures)
    c.difference-low_after.ensures.long c.difference-low_after.ensures.each
    (subst (λ (l : List ℕ). AreSums g.row.K l m.ups c.plus-3.result.words) c.high-high.ensures c.plus-3.ensures)
    c.difference-high_after.ensures.long c.difference-high_after.ensures.each))

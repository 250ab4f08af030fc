-- Answers in the proof of `enclose_by`.
use Rattle.std.proofs.Common.{◌≡◌, ℕ, List, ap, subst, ◌∙◌}
use Rattle.psi_state.specs.State.{Corners, IsBelow, box}
use Rattle.psi_state.specs.Sets.{image}
use Rattle.psi_state.specs.Hull.{corners}
use Rattle.psi_follow_packed.specs.Packed.{packed}
use Rattle.psi_follow_packed.specs.Boxes.{AreCorners}
use Rattle.psi_follow_packed.specs.Views.{low_words, high_words}
use Rattle.psi_follow_sets.proofs.boxes.enclose_by.Goals as goal

pub returns : goal.returns
returns g c = λ lo hi begun.
    let p = c.args.program.now.packing in
    let f = g.E.EventLaw.function c.args.event.now in
    let b = c.envelope.new.b in
    let made : b ≡ corners (image f (box lo hi)) =
    c.envelope.ensures.hull ∙ ap (λ (a : Corners). corners (image f (box a.lo a.hi))) (c.bounds_of-bounds.ensures lo hi begun) in
    subst (λ (a : Corners). AreCorners g.row.K p (low_words c.pack.result) (high_words c.pack.result) a.lo a.hi) made (record {
      ordered = c.lo.ensures.ordered;
      within = subst (λ (cs : List ℕ). IsBelow b.hi cs) c.requires.caps c.envelope.ensures.within;
      low = c.pack.ensures.low ∙ ap (packed g.row.K p) c.lo.ensures.value;
      high = c.pack.ensures.high ∙ ap (packed g.row.K p) c.hi.ensures.value;
    })

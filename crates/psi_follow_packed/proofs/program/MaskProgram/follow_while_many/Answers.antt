use Rattle.std.proofs.Common.{◌≡◌, ◌+◌, ◌-◌, ◌<◌, ◌≤◌, inl, inr, length, slice_index, ap, sym, subst, ◌∙◌, refl, arith}
use Rattle.psi_follow_packed.specs.Moves.{Moving, IsMoved}
use Rattle.psi_follow_packed.specs.Programs.{Prepared}
use Rattle.psi_follow_packed.specs.Boxes.{AreFollowed, Ends, GapsTell, box_from}
use Rattle.psi_follow_packed.specs.Views.{low_words, high_words}
use Rattle.psi_follow_packed.proofs.DescendingLemmas.{many-told, followed-none, followed-more}
use Rattle.psi_follow_packed.proofs.program.MaskProgram.follow_while_many.Goals as goal
use Rattle.psi_follow_packed.proofs.program.MaskProgram.follow_while_many.Goals.{then-became_few-via-then-became_few, then-became_few-via-else-became_few+then-halts-number}

pub returns-then-has_at_most-clause-run : goal.returns-then-has_at_most-clause-run
returns-then-has_at_most-clause-run g c = λ caps functions lo hi prepared monotone corners.
    let p = c.args.self.now in
    let numbers = c.args.numbers.now in
    let x = c.args.x.now in
    let bits : p.packing.bits ≡ c.bits-bits.result = sym (ap (λ (q : Prepared). q.packing.bits) c.self.view_is) ∙ sym c.bits-bits.ensures.value in
    let followed = followed-none g.row.K p caps functions numbers c.args.halts.now c.args.most lo hi prepared monotone (low_words x) (high_words x) corners in
    let tells = c.has_at_most.ensures p.packing (low_words x) (high_words x) prepared.packing bits c.gaps-tested.ensures _ _ followed.corners in
    (followed, inr (inl (tells.0 c.if-has_at_most.true)))

pub loop-place-init : goal.loop-place-init
loop-place-init g c = record {
  run = λ caps functions lo hi prepared monotone corners.
      followed-none g.row.K c.args.self.now caps functions c.args.numbers.now c.args.halts.now c.args.most lo hi prepared monotone (low_words c.args.x.now) (high_words c.args.x.now) corners;
  tested = subst (λ told. GapsTell g.row.K c.bits-bits.result c.args.most c.gaps-tested.result.words told) c.if-has_at_most.false c.has_at_most.ensures;
}

pub loop-place-preserved : goal.loop-place-preserved
loop-place-preserved g c = record {
  run = λ caps functions lo hi prepared monotone corners.
      let p = c.args.self.now in
      let numbers = c.args.numbers.now in
      let i = c.loop-place.place in
      let own = c.loop-place.own in
      let new = c.advance.new.x in
      let some : 1 ≤ i = c.loop-place-test.true in
      let within : i ≤ length numbers = c.loop-place.auto.place in
      let number = slice_index numbers (i - 1) in
      let small : number < length p.moves = c.requires.numbers (i - 1) (omega arith) in
      let bits : p.packing.bits ≡ c.bits-bits.result = sym (ap (λ (q : Prepared). q.packing.bits) c.self.view_is) ∙ sym c.bits-bits.ensures.value in
      let followed = c.loop-place.invariant.run caps functions lo hi prepared monotone corners in
      let tells = c.became_few.ensures p.packing (low_words own) (high_words own) prepared.packing bits c.gaps-gaps.ensures _ _ followed.corners in
      let many : c.args.most < length (box_from functions numbers lo hi i) = many-told c.became_few.result (length (box_from functions numbers lo hi i)) c.args.most tells c.if-became_few.false in
      followed-more g.row.K p caps functions numbers c.args.halts.now c.args.most lo hi prepared monotone i (low_words own) (high_words own) some within small followed (low_words new) (high_words new)
      many c.if-halts-number.false
      (subst (λ (n : Moving). IsMoved g.row.K n (low_words own) (low_words new)) c.event.ensures.low c.advance.ensures.low)
      (subst (λ (n : Moving). IsMoved g.row.K n (high_words own) (high_words new)) c.event.ensures.high c.advance.ensures.high);
  tested = subst (λ told. GapsTell g.row.K c.bits-bits.result c.args.most c.gaps-gaps.result.words told) c.if-became_few.false c.became_few.ensures;
}

pub returns-then-became_few-clause-run : goal.returns-then-became_few-clause-run
returns-then-became_few-clause-run g c = λ caps functions lo hi prepared monotone corners.
    let p = c.args.self.now in
    let numbers = c.args.numbers.now in
    let halts = c.args.halts.now in
    let i = c.loop-place.place in
    let own = c.loop-place.own in
    let some : 1 ≤ i = c.loop-place-test.true in
    let same : i ≡ i - 1 + 1 = omega arith in
    let bits : p.packing.bits ≡ c.bits-bits.result = sym (ap (λ (q : Prepared). q.packing.bits) c.self.view_is) ∙ sym c.bits-bits.ensures.value in
    let followed = c.loop-place.invariant.run caps functions lo hi prepared monotone corners in
    let tells = c.became_few.ensures p.packing (low_words own) (high_words own) prepared.packing bits c.gaps-gaps.ensures _ _ followed.corners in
    let ends : Ends functions numbers halts c.args.most lo hi i = elim c.then-became_few.branch [
      | then-became_few-via-then-became_few w ↦ inr (inl (tells.0 w.if-became_few.true))
      | then-became_few-via-else-became_few+then-halts-number w ↦ inr (inr w.if-halts-number.true)
    ] in
    subst (λ n. AreFollowed g.row.K p.packing functions numbers halts c.args.most lo hi (low_words own) (high_words own) n × Ends functions numbers halts c.args.most lo hi n) same (followed, ends)

pub returns-clause-run : goal.returns-clause-run
returns-clause-run g c = λ caps functions lo hi prepared monotone corners.
    let none : c.loop-place.place ≡ 0 = omega arith in (
      subst (λ n. AreFollowed g.row.K c.args.self.now.packing functions c.args.numbers.now c.args.halts.now c.args.most lo hi (low_words c.loop-place.own) (high_words c.loop-place.own) n) none
          (c.loop-place.invariant.run caps functions lo hi prepared monotone corners),
      inl refl,
    )

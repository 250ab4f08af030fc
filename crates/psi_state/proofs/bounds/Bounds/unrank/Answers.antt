-- Answers in the proof of `Bounds::unrank`.
use Rattle.std.specs.Prelude.{◌≡◌, ℕ, List, ◌+◌, ◌-◌, ◌/◌, ◌%◌, ◌≤◌, slice_index}
use Rattle.std.proofs.Common.{ap, sym, ◌∙◌, subst, arith}
use Rattle.psi_state.proofs.CountingLemmas.{IsUnranking, unranking-next, unranking-last, digit-high}
use Rattle.psi_state.proofs.bounds.Bounds.unrank.Goals as goal

pub overflow_add-get : goal.overflow_add-get
overflow_add-get c =
    let low : slice_index c.lo-lo.result (c.loop-place.place - 1) ≡ slice_index c.args.self.now.lo (c.loop-place.place - 1) =
    ap (λ (l : List ℕ). slice_index l (c.loop-place.place - 1)) c.lo-lo.ensures.value in
    let high : slice_index c.args.self.now.lo (c.loop-place.place - 1) + c.loop-place.left % c.width-width.result ≤ slice_index c.args.self.now.hi (c.loop-place.place - 1) =
    digit-high c.args.self.now.lo c.args.self.now.hi (c.loop-place.place - 1) c.loop-place.left c.width-width.result
    c.lo-lo.ensures.ordered (omega arith) c.width-width.ensures.value in
    omega arith

pub loop-place-preserved : goal.loop-place-preserved
loop-place-preserved c =
    let low : c.get.result ≡ slice_index c.args.self.now.lo (c.loop-place.place - 1) =
    c.get.ensures ∙ ap (λ (l : List ℕ). slice_index l (c.loop-place.place - 1)) c.lo-lo.ensures.value in
    let step = unranking-next c.args.self.now.lo c.args.self.now.hi c.loop-place.x c.loop-place.place (c.loop-place.place - 1) c.loop-place.left c.width-width.result
    (c.get.result + c.loop-place.left % c.width-width.result) c.args.r c.lo-lo.ensures.ordered (omega arith)
    c.width-width.ensures.value (ap (λ n. n + c.loop-place.left % c.width-width.result) low) (omega arith) c.loop-place.invariant.unranking in
    record {
      unranking = subst (λ (x : List ℕ). IsUnranking c.args.self.now.lo c.args.self.now.hi x (c.loop-place.place - 1) (c.loop-place.left / c.width-width.result) c.args.r)
          (sym c.set.ensures) step;
    }

pub returns : goal.returns
returns c =
    let end : c.loop-place.place ≡ 0 = omega arith in
    unranking-last c.args.self.now.lo c.args.self.now.hi c.loop-place.x c.loop-place.left c.args.r c.requires
    (subst (λ k. IsUnranking c.args.self.now.lo c.args.self.now.hi c.loop-place.x k c.loop-place.left c.args.r) end c.loop-place.invariant.unranking)

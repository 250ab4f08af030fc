-- Answers in the proof of `Route::weigh`.
use Rattle.std.proofs.Common.{◌≡◌, ◌+◌, ◌<◌, length, slice_set, is_none, true, false, sym, ◌∙◌, subst, arith}
use Rattle.psi_state.specs.State.{Corners}
use Rattle.psi_route.specs.Routing.{routing}
use Rattle.psi_route.specs.Route.{shape_of}
use Rattle.psi_route.specs.Ends.{AreTargetEnds}
use Rattle.psi_route.proofs.ByTablesLemmas.{both-ends, ends-weighed, coming-weighed}
use Rattle.psi_route.proofs.SearchingLemmas.{absent-is}
use Rattle.psi_route.proofs.route.Route.weigh.Goals as goal
use Rattle.psi_route.proofs.route.Route.weigh.Goals.{then-always, else-always}

pub set-requires-clause-ordered : goal.set-requires-clause-ordered
set-requires-clause-ordered c =
    let small : c.loop-j.j < length c.args.self.now.targets = omega (arith, c.loop-j-test.true, c.places-j-end.ensures.value) in
    (both-ends (shape_of c.args.self.now) c.args.self.now.valid _ _ _ _ _ _ _ _ _ _ _ _ _ _ _ _ _ c.requires.ordered c.requires.within c.loop-j.invariant small c.target-queue.ensures.value
    c.least-least.ensures.value c.greatest-greatest.ensures.value c.requires.coming.0 c.requires.coming.1 c.served_rivals-rivals.ensures c.bars-bars.ensures
    c.beside.ensures c.beside-in-loop-j.ensures c.low_after-low.ensures.kept c.low_after-low.ensures.served c.target_high-high.ensures).ordered

pub loop-j-preserved : goal.loop-j-preserved
loop-j-preserved c =
    let s = shape_of c.args.self.now in
    let small : c.loop-j.j < length s.targets = omega (arith, c.loop-j-test.true, c.places-j-end.ensures.value) in
    let both =
    both-ends s c.args.self.now.valid _ _ _ _ _ _ _ _ _ _ _ _ _ _ _ _ _ c.requires.ordered c.requires.within c.loop-j.invariant small c.target-queue.ensures.value
    c.least-least.ensures.value c.greatest-greatest.ensures.value c.requires.coming.0 c.requires.coming.1 c.served_rivals-rivals.ensures c.bars-bars.ensures
    c.beside.ensures c.beside-in-loop-j.ensures c.low_after-low.ensures.kept c.low_after-low.ensures.served c.target_high-high.ensures in
    subst (λ (m : Corners). AreTargetEnds (routing s) c.args.b.now.lo c.args.b.now.hi m.lo m.hi (c.loop-j.j + 1)) (sym c.set.ensures)
    (subst (λ q. AreTargetEnds (routing s) c.args.b.now.lo c.args.b.now.hi (slice_set c.loop-j.b.lo q c.low_after-low.result) (slice_set c.loop-j.b.hi q c.target_high-high.result) (c.loop-j.j + 1))
    (sym c.target-queue.ensures.value)
    (ends-weighed s c.args.self.now.valid c.args.b.now.lo c.args.b.now.hi c.loop-j.b.lo c.loop-j.b.hi c.loop-j.j c.low_after-low.result c.target_high-high.result
    c.requires.ordered c.requires.within c.loop-j.invariant small both))

pub returns-clause-left : goal.returns-clause-left
returns-clause-left c =
    let rivals = c.served_rivals-rivals.result in
    let bars = c.bars-bars.result in
    let told : (c.args.always ≡ true → c.if-always.result ≡ is_none rivals.first) × (c.args.always ≡ false → c.if-always.result ≡ false) =
    elim c.if-always.branch [
      | then-always w ↦ (λ e. w.result-is ∙ absent-is rivals.first w.is_none.result w.is_none.ensures, λ e. absurd (cc))
      | else-always w ↦ (λ e. absurd (cc), λ e. w.result-is ∙ e)
    ] in
    coming-weighed (shape_of c.args.self.now) c.args.self.now.valid c.args.b.now.lo c.args.b.now.hi c.args.always c.if-always.result c.is_none-2.result rivals.first bars.first
    c.requires.ordered c.requires.within c.requires.coming.0 c.requires.coming.1 rivals.second bars.second c.served_rivals-rivals.ensures c.bars-bars.ensures told.0 told.1
    (absent-is bars.first c.is_none-2.result c.is_none-2.ensures)

-- Answers in the proof of `Route::target_low`.
use Rattle.std.proofs.Common.{inl, refl, arith}
use Rattle.psi_route.proofs.route.Route.target_low.Goals as goal

pub returns-then-stays-last : goal.returns-then-stays-last
returns-then-stays-last c =
    let sized = c.args.self.now.valid.sized in
    let stays = c.first_staying-stays.ensures in
    inl (
      c.first_staying-stays.result,
      stays.from,
      omega (arith, c.if-stays-last.true, c.min.ensures, c.requires.within.0),
      omega (arith, c.if-stays-last.true, c.min.ensures, sized),
      stays.stays c.if-stays-last.true,
      λ t low less. stays.rises t low less (omega (arith, c.if-stays-last.true)),
      refl,
    )

-- Answers in the proof of `Route::least_two`.
use Rattle.std.proofs.Common.{◌<◌, length, arith}
use Rattle.psi_route.proofs.OfferingLemmas.{two-more}
use Rattle.psi_route.proofs.route.Route.least_two.Goals as goal

pub loop-i-preserved : goal.loop-i-preserved
loop-i-preserved g c =
    (let small : c.loop-i.i < length c.args.self.now.targets = omega (arith, c.loop-i-test.true, c.places-i-end.ensures.value) in
    two-more _ c.loop-i.i _ _ _ _ _ (λ key may. c.requires.placed c.loop-i.i key small may) c.loop-i.invariant c.offer.ensures c.with-found.ensures)

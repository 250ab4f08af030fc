-- Answers in the proof of `Route::bars`.
use Rattle.std.proofs.Common.{rules}
use Rattle.psi_route.specs.Routing.{routing}
use Rattle.psi_route.specs.Route.{shape_of}
use Rattle.psi_route.specs.Offers.{IsBar}
use Rattle.psi_route.proofs.OfferingLemmas.{two-as}
use Rattle.psi_route.proofs.route.Route.bars.Goals as goal

pub returns : goal.returns
returns c =
    two-as _ (IsBar (routing (shape_of c.args.self.now)) c.args.b.now.lo c.args.b.now.hi) _ _ _ (λ i offer small may. search rules) c.least_two.ensures

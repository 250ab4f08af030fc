-- Answers in the proof of `Route::rivals`.
use Rattle.std.proofs.Common.{rules}
use Rattle.psi_route.specs.Routing.{routing}
use Rattle.psi_route.specs.Route.{shape_of}
use Rattle.psi_route.specs.Offers.{IsRival}
use Rattle.psi_route.proofs.OfferingLemmas.{two-as}
use Rattle.psi_route.proofs.route.Route.rivals.Goals as goal

pub returns : goal.returns
returns c =
    two-as _ (IsRival (routing (shape_of c.args.self.now)) c.args.b.now.lo c.args.b.now.hi) _ _ _ (λ i offer small may. search rules) c.least_two.ensures

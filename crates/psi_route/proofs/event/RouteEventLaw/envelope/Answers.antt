-- Answers in the proof of `RouteEventLaw::envelope`.
use Rattle.std.proofs.Common.{◌∙◌}
use Rattle.psi_event.proofs.LawLemmas.{monotone-corners, tight-within}
use Rattle.psi_route.specs.Routing.{routed}
use Rattle.psi_route.specs.Closed.{routed-closed}
use Rattle.psi_route.specs.Route.{shape_of}
use Rattle.psi_route.proofs.event.RouteEventLaw.envelope.Goals as goal

pub returns-clause-within : goal.returns-clause-within
returns-clause-within c = tight-within c.args.self.now.caps (routed (shape_of c.args.self.now)) c.args.b.now.lo c.args.b.now.hi c.spread.new.b.lo c.spread.new.b.hi
    (routed-closed (shape_of c.args.self.now)) c.spread.ensures.ordered c.requires c.spread.ensures.tight

pub returns-clause-monotone : goal.returns-clause-monotone
returns-clause-monotone c mono = c.spread.ensures.hull ∙ monotone-corners c.args.self.now.caps (routed (shape_of c.args.self.now)) c.args.b.now.lo c.args.b.now.hi mono c.spread.ensures.ordered c.requires

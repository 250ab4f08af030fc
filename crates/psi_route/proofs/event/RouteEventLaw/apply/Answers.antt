-- Answers in the proof of `RouteEventLaw::apply`.
use Rattle.std.proofs.Common.{List, ℕ, sym, subst}
use Rattle.psi_state.specs.State.{IsBelow}
use Rattle.psi_route.specs.Closed.{routed-closed}
use Rattle.psi_route.specs.Route.{shape_of}
use Rattle.psi_route.proofs.event.RouteEventLaw.apply.Goals as goal

pub returns-clause-within : goal.returns-clause-within
returns-clause-within c =
    subst (λ (y : List ℕ). IsBelow y c.args.self.now.caps) (sym c.move_customers.ensures)
    ((routed-closed (shape_of c.args.self.now)).each c.args.x.now c.requires)

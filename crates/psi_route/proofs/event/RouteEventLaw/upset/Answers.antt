-- Answers in the proof of `RouteEventLaw::upset`.
use Rattle.std.proofs.Common.{List, ℕ, Option, sym, subst}
use Rattle.psi_event.specs.Law.{ShowsUpset}
use Rattle.psi_route.specs.Routing.{routed}
use Rattle.psi_route.proofs.UpsetLemmas.{upset-shows}
use Rattle.psi_route.specs.Route.{shape_of}
use Rattle.psi_route.proofs.event.RouteEventLaw.upset.Goals as goal

pub returns-clause-shown : goal.returns-clause-shown
returns-clause-shown c =
    subst (λ (o : Option (List ℕ × List ℕ)). ShowsUpset c.args.self.now.caps (routed (shape_of c.args.self.now)) o) (sym c.broken.ensures)
    (upset-shows (shape_of c.args.self.now) c.args.self.now.valid)

-- Answers in the proof of `Route::piecewise`.
use Rattle.std.proofs.Common.{◌∙◌, sym, subst}
use Rattle.psi_event.specs.declared.piecewise.Piecewise.{Piecewise}
use Rattle.psi_event.specs.Piecewise.{Does}
use Rattle.psi_route.specs.Routing.{routed}
use Rattle.psi_route.specs.Route.{shape_of}
use Rattle.psi_route.proofs.PiecesLemmas.{leaving-does, joining-does}
use Rattle.psi_route.proofs.TwoTargetsLemmas.{choosing-does}
use Rattle.psi_route.proofs.pieces.RoutePiecewiseLaw.piecewise.Goals as goal

pub returns-in-0 : goal.returns-in-0
returns-in-0 c =
    let s = shape_of c.args.self.now in
    subst (λ (p : Piecewise). Does s.caps p (routed s)) (sym c.leaving.ensures) (leaving-does s c.args.self.now.valid (sym c.places.ensures.value ∙ c.in-0.is))

pub returns-in-1 : goal.returns-in-1
returns-in-1 c =
    let s = shape_of c.args.self.now in
    subst (λ (p : Piecewise). Does s.caps p (routed s)) (sym c.joining.ensures) (joining-does s c.args.self.now.valid (sym c.places.ensures.value ∙ c.in-1.is) (c.is_plain.ensures.0 c.if-not-is_plain.false))

pub returns-in-2 : goal.returns-in-2
returns-in-2 c =
    let s = shape_of c.args.self.now in
    subst (λ (p : Piecewise). Does s.caps p (routed s)) (sym c.choosing.ensures) (choosing-does s c.args.self.now.valid (sym c.places.ensures.value ∙ c.in-2.is) (c.is_plain.ensures.0 c.if-not-is_plain.false) c.if-stays.ensures)

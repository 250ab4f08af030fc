-- Laws. What an event of one of the forms stands for: what its form does.
use Rattle.psi_event.specs.Law.{IsClosed}
use Rattle.psi_event.specs.Idle.{unchanged}
use Rattle.psi_event.specs.Inner.IdleLaws.{unchanged-closed}
use Rattle.psi_guard.specs.Guarding.{guarded}
use Rattle.psi_guard.specs.Inner.RuleLaws.{guarded-closed}
use Rattle.psi_route.specs.Routing.{routed}
use Rattle.psi_route.specs.Route.{shape_of}
use Rattle.psi_route.specs.Closed.{routed-closed}
use Rattle.psi_kinds.specs.declared.event.Event.{Event}
use Rattle.psi_kinds.specs.declared.event.Event.TheVariants as form
use Rattle.psi_kinds.specs.Events.{by_form}

-- each form makes states of states
pub by_form-closed : (event : Event)
    → IsClosed (by_form (λ r. r.caps) (λ g. g.caps) (λ i. i.caps) event) (by_form (λ r. routed (shape_of r)) (λ g. guarded g.parts) (λ i. unchanged) event)
by_form-closed (form.Route event) = routed-closed (shape_of event)
by_form-closed (form.Guarded event) = guarded-closed event.caps event.parts event.guards
by_form-closed (form.Idle event) = unchanged-closed event.caps

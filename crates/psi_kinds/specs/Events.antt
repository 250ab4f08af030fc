-- What an event of one of the forms stands for: what its form does.
use Rattle.psi_event.specs.declared.Idle.{Idle}
use Rattle.psi_guard.specs.Guarding.{guarded}
use Rattle.psi_guard.specs.declared.Guarded.{Guarded}
use Rattle.psi_route.specs.declared.Route.{Route}
use Rattle.psi_kinds.specs.declared.event.Event.{Event}
use Rattle.psi_kinds.specs.declared.event.Event.TheVariants as form

-- by the form of the event
abbrev pub by_form : {A : Type 0} → (Route → A) → (Guarded → A) → (Idle → A) → Event → A
by_form route guarded idle (form.Route event) = route event
by_form route guarded idle (form.Guarded event) = guarded event
by_form route guarded idle (form.Idle event) = idle event

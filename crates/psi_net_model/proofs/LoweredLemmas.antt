-- What an event of a network stands for, by its form.
use Rattle.std.specs.Prelude.{◌≡◌, ℕ, ◌+◌, ◌<◌, List, [], ◌∷◌, ◌++◌, length, take, get_or, Option, None}
use Rattle.psi_event.specs.Idle.{unchanged}
use Rattle.psi_guard.specs.Guarding.{guarded}
use Rattle.psi_guard.specs.Guarding.{upset_of as upset_of_parts}
use Rattle.psi_route.specs.Route.{shape_of}
use Rattle.psi_route.specs.Routing.{routed}
use Rattle.psi_route.specs.Routing.{upset_of as upset_of_shape}
use Rattle.psi_kinds.specs.Events.{by_form}
use Rattle.psi_kinds.specs.Kinds.{Does}
use Rattle.psi_kinds.specs.Forms.{upset_of}
use Rattle.psi_kinds.specs.declared.Event.{Event}
use Rattle.psi_net_model.specs.Made.{AreMade}
use Rattle.psi_net_model.specs.declared.entries.NamedEvent.{NamedEvent}
use Rattle.psi_net_model.proofs.PartsLemmas.{made_more}

abbrev pub capacities : Event → List ℕ
capacities event = by_form (λ route. route.caps) (λ guard. guard.caps) (λ idle. idle.caps) event

abbrev pub function : Event → List ℕ → List ℕ
function event = by_form (λ route. routed (shape_of route)) (λ guard. guarded guard.parts) (λ _. unchanged) event

abbrev pub upset_pair : Event → Option (List ℕ × List ℕ)
upset_pair event = by_form (λ route. upset_of_shape (shape_of route)) (λ guard. upset_of_parts guard.caps guard.parts) (λ _. None) event

-- one event more
pub lowered_more : (caps : List ℕ) (events : List NamedEvent) (i : ℕ) (event : NamedEvent) (made more : List Event) (one : Event) → i < length events → event ≡ get_or events i event
    → capacities one ≡ caps → Does caps (function one) event.kind → upset_pair one ≡ upset_of caps event.kind → more ≡ made ++ one ∷ []
    → AreMade capacities function upset_pair caps (take i events) made → AreMade capacities function upset_pair caps (take (i + 1) events) more
lowered_more caps events i event made more one small is same does mark pushed so = rw (pushed) (made_more capacities function upset_pair caps events i event made one small is same does mark so)

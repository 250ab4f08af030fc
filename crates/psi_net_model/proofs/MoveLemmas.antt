-- The events of a network that are moves.
use Rattle.std.specs.Prelude.{◌≡◌, ℕ, List, All, Option, Some, None, IfSome, slice_get}
use Rattle.std.proofs.Common.{sym, ap, ◌∙◌, subst}
use Rattle.std.specs.Option.{option_map, option_and_then}
use Rattle.std.proofs.lemmas.Option.{slice_get_within, get_or_from_slice_get}
use Rattle.psi_kinds.specs.declared.Move.{Move}
use Rattle.psi_kinds.specs.Kinds.{do_kind}
use Rattle.psi_kinds.specs.Moves.{moved, IsMove, move_of}
use Rattle.psi_kinds.proofs.MoveLemmas.{move-is, move-does}
use Rattle.psi_net_model.specs.Network.{Network, caps_of}
use Rattle.psi_net_model.specs.Valid.{IsAccepted, IsNetwork}
use Rattle.psi_net_model.specs.declared.entries.NamedEvent.{NamedEvent}

-- the kind of each event is accepted
accepted_at : (caps : List ℕ) (events : List NamedEvent) (e : ℕ) (event : NamedEvent) → All (λ v. IsAccepted caps v.kind) events
    → slice_get events e ≡ Some event → IsAccepted caps event.kind
accepted_at caps events e event kept at =
    subst (λ (v : NamedEvent). IsAccepted caps v.kind) (get_or_from_slice_get events e event event at) (kept e event (slice_get_within events e event at))

pub move_read : (events : List NamedEvent) (e : ℕ) (event : NamedEvent) (result : Option Move) → slice_get events e ≡ Some event → result ≡ move_of event.kind
    → option_and_then (λ (v : NamedEvent). move_of v.kind) (slice_get events e) ≡ result
move_read events e event result at is = ap (λ o. option_and_then (λ (v : NamedEvent). move_of v.kind) o) at ∙ sym is

pub move_kept : (net : Network) (e : ℕ) (event : NamedEvent) (result : Option Move) → IsNetwork net → slice_get net.events e ≡ Some event → result ≡ move_of event.kind
    → IfSome result (λ m. IsMove (caps_of net) m)
move_kept net e event None kept at is = tt
move_kept net e event (Some m) kept at is =
    let one = accepted_at (caps_of net) net.events e event kept.kinds at in move-is (caps_of net) event.kind m (sym is) one.named one.accepted

pub move_done : (net : Network) (e : ℕ) (event : NamedEvent) (result : Option Move) → IsNetwork net → slice_get net.events e ≡ Some event → result ≡ move_of event.kind
    → IfSome result (λ m. (x : List ℕ) → option_map (λ (v : NamedEvent). do_kind (caps_of net) v.kind x) (slice_get net.events e) ≡ Some (moved (caps_of net) m x))
move_done net e event None kept at is = tt
move_done net e event (Some m) kept at is = λ x.
    let one = accepted_at (caps_of net) net.events e event kept.kinds at in
    ap (λ o. option_map (λ (v : NamedEvent). do_kind (caps_of net) v.kind x) o) at ∙ ap Some (move-does (caps_of net) event.kind m (sym is) one.named one.accepted x)

-- What an accepted kind of event does makes states of states.
use Rattle.std.specs.Prelude.{◌≡◌, ℕ, ◌-◌, List, [], Bool, true, false, if◌then◌else◌, Option, Some, None, slice_index}
use Rattle.std.proofs.Common.{subst, arith}
use Rattle.psi_state.specs.State.{IsBelow, AreCapacities}
use Rattle.psi_event.specs.Law.{IsClosed}
use Rattle.psi_guard.specs.Inner.RuleLaws.{guarded-closed}
use Rattle.psi_guard.proofs.AcceptedLemmas.{guards-accepted}
use Rattle.psi_route.specs.declared.Source.{Source}
use Rattle.psi_route.specs.declared.Full.TheVariants.{Lost}
use Rattle.psi_route.proofs.PiecesLemmas.{set-within}
use Rattle.psi_route.specs.Accepted.{shape}
use Rattle.psi_route.specs.Closed.{routed-closed}
use Rattle.psi_kinds.specs.declared.kinds.Kind.{Kind}
use Rattle.psi_kinds.specs.declared.kinds.Kind.TheVariants.{Arrival, Service, Index, Batch, Negative, Fork, Join, Guarded}
use Rattle.psi_kinds.specs.Kinds.{lose, leave, may_serve, do_kind, IsKindOf, Does}
use Rattle.psi_kinds.specs.Refusals.{refusal_of, refusal_of_parts, IsUnrefused}
use Rattle.psi_kinds.specs.Forms.{fork_parts, join_parts, form_of, function_of}
use Rattle.psi_kinds.proofs.AcceptingLemmas.{accepted-parts, guards-unrefused, other-away}
use Rattle.psi_kinds.proofs.DoesLemmas.{unrefused, form-does}
use Rattle.psi_kinds.proofs.FittingLemmas.{fork-fits, join-fits}

lose-closed : (caps : List ℕ) (q b : ℕ) (x : List ℕ) → IsBelow x caps → IsBelow (lose q b x) caps
lose-closed caps q b x below =
    set-within caps x q (slice_index x q - b) below (λ small. (let cap = below.each q (omega (arith, below.same_length)) in omega arith))

leave-closed : (caps : List ℕ) (from : Option Source) (x : List ℕ) → IsBelow x caps → IsBelow (leave from x) caps
leave-closed caps None x below = below
leave-closed caps (Some source) x below = lose-closed caps source.queue 1 x below

negative-closed : (caps : List ℕ) (from : Option Source) (on amount : ℕ) (x : List ℕ) (b : Bool) → IsBelow x caps
    → IsBelow (if b then lose on amount (leave from x) else x) caps
negative-closed caps from on amount x true below = lose-closed caps on amount (leave from x) (leave-closed caps from x below)
negative-closed caps from on amount x false below = below

by-form : (caps : List ℕ) (kind : Kind) → Does caps (function_of (form_of caps kind)) kind → IsClosed caps (function_of (form_of caps kind)) → IsClosed caps (do_kind caps kind)
by-form caps kind does closed = record {
  each = λ x below. subst (λ (y : List ℕ). IsBelow y caps) (does.each x below) (closed.each x below);
}

-- whatever an accepted kind is, it makes states of states
closed-cases : (caps : List ℕ) (kind : Kind) → AreCapacities caps → IsKindOf caps kind → IsUnrefused caps kind → refusal_of_parts caps kind ≡ None
    → Does caps (function_of (form_of caps kind)) kind → IsClosed caps (do_kind caps kind)
unfolding do_kind
closed-cases caps (Arrival to) valid named free parts does =
    by-form caps (Arrival to) does (routed-closed (shape caps None 1 to [] Lost))
closed-cases caps (Service from to full) valid named free parts does =
    by-form caps (Service from to full) does (routed-closed (shape caps (Some from) 1 to [] full))
closed-cases caps (Index from to table full size) valid named free parts does =
    by-form caps (Index from to table full size) does (routed-closed (shape caps from size to table full))
closed-cases caps (Batch to size) valid named free parts does =
    by-form caps (Batch to size) does (routed-closed (shape caps None size to [] Lost))
closed-cases caps (Negative from on amount) valid named free parts does =
    record { each = λ x below. negative-closed caps from on amount x (may_serve from x) below }
closed-cases caps (Fork from to) valid named free parts does =
    by-form caps (Fork from to) does (guarded-closed caps (fork_parts caps from to) (guards-accepted caps (fork_parts caps from to) (fork-fits caps from to named.0 named.1 free.once free.away)))
closed-cases caps (Join from to) valid named free parts does =
    by-form caps (Join from to) does (guarded-closed caps (join_parts caps from to) (guards-accepted caps (join_parts caps from to) (join-fits caps from to valid named.0 named.1 free.once (other-away from to free.away))))
closed-cases caps (Guarded parts) valid named free refused does =
    by-form caps (Guarded parts) does (guarded-closed caps parts (guards-accepted caps parts (guards-unrefused caps parts refused)))

pub kind-closed : (caps : List ℕ) (kind : Kind) → AreCapacities caps → IsKindOf caps kind → refusal_of caps kind ≡ None → IsClosed caps (do_kind caps kind)
kind-closed caps kind valid named is =
    let both = accepted-parts caps kind is in
    let free = unrefused caps kind both.0 in
    closed-cases caps kind valid named free both.1 (form-does caps kind valid named free)

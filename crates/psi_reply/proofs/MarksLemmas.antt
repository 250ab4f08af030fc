-- The mark of an event that does what a kind does is right for the kind.
use Rattle.std.specs.Prelude.{◌≡◌, ℕ, zero, suc, ◌<◌, List, [], ◌∷◌, length, map, Option, Some, None, slice_get, slice_index_or}
use Rattle.std.proofs.Common.{arith, ap, sym, ◌∙◌, subst}
use Rattle.std.proofs.lemmas.Option.{slice_get_within, get_or_from_slice_get}
use Rattle.std.proofs.lemmas.Grind.{common_steps}
use Rattle.psi_state.proofs.BoxesLemmas.{below-through}
use Rattle.psi_event.specs.Law.{ShowsUpset}
use Rattle.psi_rate.specs.Composition.{SystemParts}
use Rattle.psi_rate.specs.System.{IsSystem}
use Rattle.psi_kinds.specs.Kinds.{do_kind, Does}
use Rattle.psi_kinds.specs.Forms.{upset_of}
use Rattle.psi_net_model.specs.Made.{EachDoes}
use Rattle.psi_net_model.specs.declared.entries.NamedEvent.{NamedEvent}
use Rattle.psi_kinds.specs.declared.Kind.{Kind}

-- one after the other, each does what its kind does: so at a place
pub does-at : {E : Type 0} (function : E → List ℕ → List ℕ) (caps : List ℕ) (made : List E) (events : List NamedEvent) (i : ℕ) (m : E) (e : NamedEvent)
    → EachDoes caps (map function made) events → slice_get made i ≡ Some m → slice_get events i ≡ Some e → Does caps (function m) e.kind
does-at function caps [] events i m e each first second = absurd cc
does-at function caps (n ∷ made) [] i m e each first second = absurd cc
does-at function caps (n ∷ made) (g ∷ events) zero m e each first second = grind (arith, common_steps)
does-at function caps (n ∷ made) (g ∷ events) (suc i) m e each first second = does-at function caps made events i m e each.1 first second

-- functions that are the same on the states within the capacities have the same mark
pub shows-does : (caps : List ℕ) (f : List ℕ → List ℕ) (kind : Kind) (mark : Option (List ℕ × List ℕ)) → Does caps f kind → ShowsUpset caps f mark → ShowsUpset caps (do_kind caps kind) mark
shows-does caps f kind None does shown = record {
  each = λ x y within ordered.
      grind (arith, common_steps, below-through);
}
shows-does caps f kind (Some pair) does shown = grind (arith, common_steps, below-through)

-- so the mark of an event of a system that is made of a network is right for the network's event
pub mark-right : {E : Type 0} (capacities : E → List ℕ) (function : E → List ℕ → List ℕ) (caps : List ℕ) (system : SystemParts E) (events : List NamedEvent) (i : ℕ) (m : E) (e d : NamedEvent)
    (mark : Option (List ℕ × List ℕ)) → IsSystem capacities system → system.caps ≡ caps → EachDoes caps (map function system.events) events
    → slice_get system.events i ≡ Some m → slice_get events i ≡ Some e → ShowsUpset (capacities m) (function m) mark → mark ≡ upset_of caps e.kind
    → ShowsUpset caps (do_kind caps (slice_index_or events i d).kind) (upset_of caps (slice_index_or events i d).kind)
mark-right capacities function caps system events i m e d mark fit caps_is each first second shown is =
    let within : i < length system.events = slice_get_within system.events i m first in
    let read : slice_index_or system.events i m ≡ m = get_or_from_slice_get system.events i m m first in
    let fits : capacities m ≡ caps = ap capacities (sym read) ∙ fit.same_caps i m within ∙ caps_is in
    let here : ShowsUpset caps (function m) (upset_of caps e.kind) =
    subst (λ o. ShowsUpset caps (function m) o) is (subst (λ (x : List ℕ). ShowsUpset x (function m) mark) fits shown) in
    subst (λ (v : NamedEvent). ShowsUpset caps (do_kind caps v.kind) (upset_of caps v.kind)) (sym (get_or_from_slice_get events i e d second))
    (shows-does caps (function m) e.kind (upset_of caps e.kind) (does-at function caps system.events events i m e each first second) here)

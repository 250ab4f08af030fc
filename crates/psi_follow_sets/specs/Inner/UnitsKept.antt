-- The events of single customers among those of a network.
use Rattle.std.specs.Prelude.{ℕ, ◌<◌, List, length, slice_index_or, Option, None, IfSome}
use Rattle.psi_event.specs.Law.{Function}
use Rattle.psi_follow_packed.specs.Packed.{Packing}
use Rattle.psi_follow_packed.specs.UnitEvents.{IsUnitFor, unit_masks}
use Rattle.psi_follow_packed.specs.declared.unit_events.UnitEvent.{UnitEvent}

-- the events of single customers are those with these functions
abbrev pub AreUnitEvents : {K : ℕ} → Packing → List Function → List (Option (UnitEvent K)) → Type 0
AreUnitEvents {K} p functions units =
    (i : ℕ) → i < length functions → IfSome (slice_index_or units i None) (λ unit. IsUnitFor K p (slice_index_or functions i (λ x. x)) (unit_masks unit))

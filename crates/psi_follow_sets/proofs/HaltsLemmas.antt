-- Which events of a network halt a run by corners, as a loop finds it.
use Rattle.std.specs.Prelude.{◌≡◌, ℕ, ◌<◌, List, length, slice_index_or, Bool, true, false, not, IsTrue, Option, Some, None, IfSome, refl}
use Rattle.std.proofs.Common.{ap, sym, subst, ◌∙◌}
use Rattle.std.proofs.lemmas.List.{get_or_default}
use Rattle.psi_event.specs.Law.{Function}
use Rattle.psi_follow_packed.specs.Packed.{Packing}
use Rattle.psi_follow_packed.specs.UnitEvents.{IsUnitFor, unit_masks}
use Rattle.psi_follow_packed.specs.declared.unit_events.UnitEvent.{UnitEvent}

-- an event that doesn't halt has passed the test
pub passed : (answer : Bool) → not answer ≡ false → IsTrue answer
passed true own = refl
passed false own = absurd cc

-- the event of single customers that is read for a number
pub unit-read : {K : ℕ} (p : Packing) (f : Function) (units now : List (Option (UnitEvent K))) (number : ℕ) (read : Option (UnitEvent K)) (unit : UnitEvent K) → now ≡ units
    → read ≡ slice_index_or now number read → read ≡ Some unit → number < length units
    → IfSome (slice_index_or units number None) (λ u. IsUnitFor K p f (unit_masks u)) → IsUnitFor K p f (unit_masks unit)
unit-read {K} p f units now number read unit same own is small known =
    let here : slice_index_or units number None ≡ Some unit =
    get_or_default units number None read small ∙ ap (λ (us : List (Option (UnitEvent K))). slice_index_or us number read) (sym same) ∙ sym own ∙ is in
    subst (λ (o : Option (UnitEvent K)). IfSome o (λ u. IsUnitFor K p f (unit_masks u))) here known

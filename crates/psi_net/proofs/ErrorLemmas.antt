-- Reading the elements of an array one after another, where memory may be wanting.
use Rattle.std.proofs.Common.{◌≡◌, ℕ, ◌<◌, List, length, map, get_or, drop, Result}
use Rattle.toml.specs.Data.{Data}
use Rattle.psi_net_document.specs.Values.{each}
use Rattle.psi_net_document.specs.declared.refusals.NetRefusal.{NetRefusal}
use Rattle.psi_net_document.proofs.TurnLemmas.{turn_fails}
use Rattle.psi_net.specs.Errors.{IsNetError}
use Rattle.psi_net.specs.declared.net_error.NetError.{NetError}
use Rattle.psi_net.specs.declared.net_error.NetError.TheVariants.{Refused, OutOfMemory}

-- an element that isn't read ends the loop
pub turn_errs : {V S : Type 0} (view : V → Data) (step : ℕ → S → Data → Result S NetRefusal) (n i : ℕ) (s : S) (vs : List V) (v : V) (error : NetError)
    → i < length vs → v ≡ get_or vs i v → IsNetError error (step n s (view v)) → IsNetError error (each step n s (map view (drop i vs)))
turn_errs view step n i s vs v (Refused refusal) small is fails = turn_fails view step n i s vs v refusal small is fails
turn_errs view step n i s vs v OutOfMemory small is fails = tt

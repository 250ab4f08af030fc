-- Reading the elements of an array one after another, as a loop does.
use Rattle.std.proofs.Common.{◌≡◌, ℕ, ◌+◌, ◌<◌, ◌≤◌, List, length, map, get_or, drop, Result, Ok, Err, refl}
use Rattle.std.proofs.lemmas.List.{drop_more}
use Rattle.std.proofs.Math.ListN.{drop_of_length-le}
use Rattle.toml.specs.Data.{Data}
use Rattle.psi_net_document.specs.Values.{each}
use Rattle.psi_net_document.specs.declared.refusals.NetRefusal.{NetRefusal}

-- an element that is read takes the loop one step on
pub turn : {V S : Type 0} (view : V → Data) (step : ℕ → S → Data → Result S NetRefusal) (n i : ℕ) (s t : S) (vs : List V) (v : V)
    → i < length vs → v ≡ get_or vs i v → step n s (view v) ≡ Ok t
    → each step n s (map view (drop i vs)) ≡ each step (n + 1) t (map view (drop (i + 1) vs))
unfolding each
turn view step n i s t vs v small is read = rw (drop_more vs i v small, ← is, read) refl

-- an element that is refused ends it
pub turn_fails : {V S : Type 0} (view : V → Data) (step : ℕ → S → Data → Result S NetRefusal) (n i : ℕ) (s : S) (vs : List V) (v : V) (refusal : NetRefusal)
    → i < length vs → v ≡ get_or vs i v → step n s (view v) ≡ Err refusal → each step n s (map view (drop i vs)) ≡ Err refusal
unfolding each
turn_fails view step n i s vs v refusal small is fails = rw (drop_more vs i v small, ← is, fails) refl

-- after the last element all is read
pub turn_ends : {V S : Type 0} (view : V → Data) (step : ℕ → S → Data → Result S NetRefusal) (n i : ℕ) (s : S) (vs : List V)
    → length vs ≤ i → each step n s (map view (drop i vs)) ≡ Ok s
unfolding each
turn_ends view step n i s vs past = rw (drop_of_length-le vs past) refl

-- What a function that reads and takes memory may answer.
use Rattle.std.specs.Prelude.{◌≡◌, Result, Ok, Err}
use Rattle.psi_net_document.specs.declared.refusals.NetRefusal.{NetRefusal}
use Rattle.psi_net.specs.declared.net_error.NetError.{NetError}
use Rattle.psi_net.specs.declared.net_error.NetError.TheVariants.{Refused, OutOfMemory}

-- what an error says of what it read: a refusal is the reading's own, `OutOfMemory` says nothing
abbrev pub IsNetError : {Y : Type 0} → NetError → Result Y NetRefusal → Type 0
IsNetError (Refused refusal) reading = reading ≡ Err refusal
IsNetError OutOfMemory reading = Unit {0}

-- the answer, seen by view, is the reading's, unless an allocation fails
abbrev pub Reads : {X Y : Type 0} → (X → Y) → Result X NetError → Result Y NetRefusal → Type 0
Reads view (Ok x) reading = reading ≡ Ok (view x)
Reads view (Err error) reading = IsNetError error reading

-- What a file gives: a network or the bytes of a log, or how the work ends without them.
use Rattle.std.specs.Prelude.{◌≡◌, ℕ, List, Option, Ok, Err, IfSome}
use Rattle.psi_log.specs.Reading.{read}
use Rattle.psi_net_model.specs.Network.{Network}
use Rattle.psi_net.specs.Reading.{network_of}
use Rattle.psi_reply.specs.declared.ending.Ending.{Ending as Ended}
use Rattle.psi_reply.specs.declared.ending.Ending.TheVariants.{NetRefused, NetUnread, LogUnread, OutOfMemory}
use Rattle.psi_program.specs.Seen.{ShelfSeen, IsUnread}

-- the network is that in the file of the name, where the shelf's model has it
abbrev pub IsNetAt : (List ℕ → Option (List ℕ)) → List ℕ → Network → Type 0
IsNetAt told name net = IfSome (told name) (λ bytes. network_of bytes ≡ Ok net)

-- how the work ends where no network is had from the file of the name: it is refused, a read of it failed, or an allocation failed
abbrev pub IsNoNet : ShelfSeen → List ℕ → Ended → Type 0
IsNoNet shelf name (NetRefused refusal) = IfSome (shelf.told name) (λ bytes. network_of bytes ≡ Err refusal)
IsNoNet shelf name (NetUnread own) = (own.now ≡ name) × IsUnread shelf name
IsNoNet shelf name OutOfMemory = Unit {0}
IsNoNet shelf name ended = ⊥

-- what the bytes are read as, the file of the name is, where the shelf's model has it
abbrev pub IsTextAt : (List ℕ → Option (List ℕ)) → List ℕ → List ℕ → Type 0
IsTextAt told name text = IfSome (told name) (λ bytes. read bytes ≡ read text)

-- how the work ends where no bytes are had from the file of the name: a read of it failed, or an allocation failed
abbrev pub IsNoText : ShelfSeen → List ℕ → Ended → Type 0
IsNoText shelf name (LogUnread own) = (own.now ≡ name) × IsUnread shelf name
IsNoText shelf name OutOfMemory = Unit {0}
IsNoText shelf name ended = ⊥

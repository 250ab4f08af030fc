-- The files that a call needs, and what its shelf is asked for.
use Rattle.std.specs.Prelude.{◌≡◌, ℕ, ◌⊎◌, List, [], ◌∷◌, ◌++◌, take, map, Option, Result, Ok, Err, IsOk, IfSome, All, Contains}
use Rattle.psi_io.specs.Shelf.{Read}
use Rattle.psi_program.specs.Seen.{ShelfSeen, IsUnread, HasAsked}
use Rattle.psi_net.specs.Reading.{network_of}
use Rattle.psi_command.specs.declared.status.Status.{Status}
use Rattle.psi_command.specs.declared.status.Status.TheVariants.{NetRefused}
use Rattle.psi_command.specs.Status.{IsReplied}
use Rattle.psi_command.specs.Command.{Command, replay, File, net_file, log_file, file_name, files_of}

-- the words are a command that reads the file
abbrev pub IsRead : Result Command ℕ → File → Type 0
IsRead (Ok command) file = Contains (files_of command) file
IsRead (Err place) file = ⊥

-- the words are a replay, whose network is accepted where the shelf's model has it
abbrev pub HasNetwork : (List ℕ → Option (List ℕ)) → Result Command ℕ → Type 0
HasNetwork told (Ok (replay net log)) = IfSome (told net) (λ bytes. IsOk (network_of bytes))
HasNetwork told command = ⊥

-- the file is needed: a log only once the network is accepted
abbrev pub IsNeeded : File → (List ℕ → Option (List ℕ)) → Result Command ℕ → Type 0
IsNeeded (net_file name) told command = Unit {0}
IsNeeded (log_file name) told command = HasNetwork told command

-- the read of a file: a network may have 1,048,576 bytes, and a log 33,554,432
abbrev pub read_of : File → Read
read_of (net_file name) = record { name = name; most = 1048576 }
read_of (log_file name) = record { name = name; most = 33554432 }

-- the read of the file was the last that the shelf was asked for
pub record WasLast (shelf : ShelfSeen) (file : File) : Type 0 where
  pub earlier : List Read
  pub is : shelf.asked_after ≡ earlier ++ read_of file ∷ []

-- the command reads the file, which is needed, a read of its name failed, and no file was read after it
pub record IsMissed (shelf : ShelfSeen) (command : Result Command ℕ) (file : File) : Type 0 where
  pub read : IsRead command file
  pub needed : IsNeeded file shelf.told command
  pub rose : IsUnread shelf (file_name file)
  pub last : WasLast shelf file

-- a file is missed
pub record HasUnread (shelf : ShelfSeen) (command : Result Command ℕ) : Type 0 where
  pub file : File
  pub missed : IsMissed shelf command file

-- the files that the words name: those of the command, and none where they aren't one
abbrev pub files_in : Result Command ℕ → List File
files_in (Ok command) = files_of command
files_in (Err place) = []

-- in the call the shelf was asked for all files that the words name, for each once and in this order, and each is needed
pub record HasAskedAll (shelf : ShelfSeen) (command : Result Command ℕ) : Type 0 where
  pub asked : HasAsked shelf (map read_of (files_in command))
  pub needed : All (λ file. IsNeeded file shelf.told command) (files_in command)

-- it was asked for the first of them alone, and a reply tells that there is no network in it
pub record HasAskedFirst (shelf : ShelfSeen) (command : Result Command ℕ) (status : Status) : Type 0 where
  pub asked : HasAsked shelf (map read_of (take 1 (files_in command)))
  pub refused : IsReplied status → status ≡ NetRefused

-- what the shelf was asked for in a call that ends with this status: all files that the words name, or the first alone
abbrev pub AreAsked : ShelfSeen → Result Command ℕ → Status → Type 0
AreAsked shelf command status = HasAskedAll shelf command ⊎ HasAskedFirst shelf command status

-- the shelf gives each file that the words name: no read of it is to fail
abbrev pub AreGiven : (List ℕ → Type 0) → Result Command ℕ → Type 0
AreGiven gives command = (file : File) → IsRead command file → gives (file_name file)

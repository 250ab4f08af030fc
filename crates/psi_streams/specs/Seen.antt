-- What the shelf is asked for in a call, and the file that couldn't be read.
use Rattle.std.specs.Prelude.{◌≡◌, ℕ, List, [], ◌∷◌, Result, Ok, Err}
use Rattle.psi_io.specs.Shelf.{Read}
use Rattle.psi_program.specs.Seen.{ShelfSeen, IsUnread, HasAsked}
use Rattle.psi_command.specs.Command.{File, net_file}
use Rattle.psi_run.specs.Reads.{read_of}
use Rattle.psi_streams.specs.Asked.{Asked}

-- the reads that words ask for: that of the network file, where they ask for a table
abbrev pub reads_of : Result Asked ℕ → List Read
reads_of (Ok asked) = read_of (net_file asked.table.net) ∷ []
reads_of (Err place) = []

-- in the call the shelf was asked for these alone
abbrev pub AreAsked : ShelfSeen → Result Asked ℕ → Type 0
AreAsked shelf words = HasAsked shelf (reads_of words)

-- the words ask for a table, and a read of its network file failed
pub record HasUnread (shelf : ShelfSeen) (words : Result Asked ℕ) : Type 0 where
  pub asked : Asked
  pub is : words ≡ Ok asked
  pub unread : IsUnread shelf asked.table.net

-- the file is the one that couldn't be read
pub record IsMissed (shelf : ShelfSeen) (words : Result Asked ℕ) (file : File) : Type 0 where
  pub cause : HasUnread shelf words
  pub is : file ≡ net_file cause.asked.table.net

-- the shelf gives the network file that the words name: no read of it is to fail
abbrev pub IsGiven : (List ℕ → Type 0) → Result Asked ℕ → Type 0
IsGiven gives (Ok asked) = gives asked.table.net
IsGiven gives (Err place) = Unit {0}

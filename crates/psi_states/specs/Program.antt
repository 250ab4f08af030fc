-- The program: its name, and what its words ask for.
use Rattle.std.specs.Prelude.{ℕ, codes, None, Result, Ok, Err}
use Rattle.psi_command.specs.Tables.{Table, table_of}
use Rattle.psi_streams.specs.Asked.{Asked, TableProgram}

-- what is asked for: the table of samples of the words, or the place of the word that offends
abbrev pub asked_of : Result Table ℕ → Result Asked ℕ
asked_of (Ok table) = Ok (record { table = table; steps = None })
asked_of (Err place) = Err place

-- the program
abbrev pub states : TableProgram
states = record { name = codes "psi_states"; asked = λ words. asked_of (table_of words) }

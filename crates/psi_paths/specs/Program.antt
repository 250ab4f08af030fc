-- The program: its name, and what its words ask for.
use Rattle.std.specs.Prelude.{ℕ, codes, Some, Result, Ok, Err}
use Rattle.psi_command.specs.Paths.{Paths, paths_of}
use Rattle.psi_streams.specs.Asked.{Asked, TableProgram}

-- what is asked for: the table of paths of the words, or the place of the word that offends
abbrev pub asked_of : Result Paths ℕ → Result Asked ℕ
asked_of (Ok paths) = Ok (record { table = paths.table; steps = Some paths.steps })
asked_of (Err place) = Err place

-- the program
abbrev pub paths : TableProgram
paths = record { name = codes "psi_paths"; asked = λ words. asked_of (paths_of words) }

-- What a program is asked for, and which program it is.
use Rattle.std.specs.Prelude.{ℕ, ◌≤◌, List, Option, Result, Ok, Err, IfSome}
use Rattle.psi_command.specs.Tables.{Table, table_asked, IsTableInRange}
use Rattle.psi_streams.specs.declared.program.Asked.{Asked as Own}

-- a table of samples, or with a number of steps one of the paths that begin in them
pub record Asked : Type 0 where
  pub table : Table
  pub steps : Option ℕ

-- a program that prints tables: its name, and what its words ask for, or the place of the word that offends
pub record TableProgram : Type 0 where
  pub name : List ℕ
  pub asked : List (List ℕ) → Result Asked ℕ

-- what a call of the program's own is asked for, as the definition's
abbrev pub seen_asked : Own → Asked
seen_asked own = record { table = table_asked own.table; steps = own.steps }

-- the same where the words may offend
abbrev pub seen_result : Result Own ℕ → Result Asked ℕ
seen_result (Ok own) = Ok (seen_asked own)
seen_result (Err place) = Err place

-- its numbers are in their ranges
pub record IsInRange (own : Own) : Type 0 where
  pub table : IsTableInRange own.table
  pub few : IfSome own.steps (λ steps. steps ≤ 4290772992)

-- Where no read and no write of a call is to fail.
use Rattle.std.specs.Prelude.{◌≡◌, ℕ, List, Option, Result, true}
use Rattle.psi_program.specs.Ending.{HasRead as HasReadAll}
use Rattle.psi_program.specs.Call.{AreTaken as AreTakenOf}
use Rattle.psi_report.specs.Contents.{Contents}
use Rattle.psi_merge.specs.declared.ending.Ending.{Ending}
use Rattle.psi_merge.specs.Reply.{Reply, are_files, memory_line}
use Rattle.psi_merge.specs.Seen.{IsNext, IsNeeded}
use Rattle.psi_merge.specs.Ended.{ending_of}

-- the shelf gives each name that comes to be next: no read of it is to fail
abbrev pub AreNextGiven : (List ℕ → Type 0) → (List (List ℕ) → Option (Result Contents Reply)) → List (List ℕ) → Type 0
AreNextGiven gives found names = (name : List ℕ) → IsNext found names name → gives name

-- the shelf gives each file that is needed
abbrev pub AreGiven : (List ℕ → Type 0) → (List ℕ → Option (List ℕ)) → List (List ℕ) → Type 0
AreGiven gives told words = (name : List ℕ) → IsNeeded told words name → gives name

-- out and err take the reply's texts, and where the words are files, err takes the line on memory that ran out
abbrev pub AreTaken : (out_takes err_takes : ℕ → Type 0) → List (List ℕ) → Reply → Type 0
AreTaken out_takes err_takes words reply = AreTakenOf out_takes err_takes (are_files words ≡ true) memory_line reply

-- no read failed
abbrev pub HasRead : Ending → Type 0
HasRead ending = HasReadAll (ending_of ending)

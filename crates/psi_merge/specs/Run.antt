-- A run of the program, by what crossed its edges.
use Rattle.std.specs.Prelude.{ℕ, List, Option}
use Rattle.psi_program.specs.Run.{Run, IsRunBy, call_of}
use Rattle.psi_merge.specs.declared.status.Status.{Status}
use Rattle.psi_merge.specs.Status.{status_code}
use Rattle.psi_merge.specs.Call.{IsRun, MergesReports}

-- the run is right, if the files hold what is told: its status says of the call what it says of each, and reports of samples of one network are
-- merged into the report of all
pub record IsRight (told : List ℕ → Option (List ℕ)) (run : Run) (result : Status) : Type 0 where
  pub call : IsRun (call_of told run) result
  pub merges : MergesReports (call_of told run) result

-- a run of the program: it has a status, and is right whatever the files hold of which the answers are prefixes
abbrev pub IsRunOf : Run → Type 0
IsRunOf run = IsRunBy status_code IsRight run

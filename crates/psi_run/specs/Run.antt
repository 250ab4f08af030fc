-- A run of the program, by what crossed its edges.
use Rattle.std.specs.Prelude.{◌≡◌, ℕ, List, [], Option, Some, Ok}
use Rattle.psi_program.specs.Run.{Run, IsRunBy, call_of}
use Rattle.psi_command.specs.declared.status.Status.{Status}
use Rattle.psi_command.specs.Status.{status_code, IsReplied}
use Rattle.psi_command.specs.Command.{Command}
use Rattle.psi_command.specs.Words.{command_of}
use Rattle.psi_run.specs.Means.{Means}
use Rattle.psi_run.specs.Call.{IsRun}

-- the run is right, if the files hold what is told: its status says of the call what it says of each, and where it is one of a reply, the text
-- that out accepted means what the command says
pub record IsRight (told : List ℕ → Option (List ℕ)) (run : Run) (result : Status) : Type 0 where
  pub call : IsRun (call_of told run) result
  pub means : (command : Command) → command_of run.words ≡ Ok command → IsReplied result → Means command told (Some []) (Some run.out) result

-- a run of the program: it has a status, and is right whatever the files hold of which the answers are prefixes
abbrev pub IsRunOf : Run → Type 0
IsRunOf run = IsRunBy status_code IsRight run

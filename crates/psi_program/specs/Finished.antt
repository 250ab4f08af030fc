-- How the work of a call ended, together with how that was written.
use Rattle.std.specs.Prelude.{ℕ}
use Rattle.psi_program.specs.Seen.{SinkSeen}
use Rattle.psi_program.specs.Ending.{Ending, Faults, ending_reply}
use Rattle.psi_program.specs.Written.{IsWrittenAs, IsSpared}

-- the work of a call has such an ending, and that was written
pub record IsFinished {Status File : Type 0} (faults : Faults Status File) (Is : Ending Status File → Type 0) (out_takes err_takes : ℕ → Type 0) (out err : SinkSeen) (result : Status) : Type 0 where
  -- the ending
  pub ending : Ending Status File
  pub is : Is ending
  -- its text in out and err, and the status
  pub written : IsWrittenAs (ending_reply faults ending) faults.write_fault out err result
  -- where each sink takes its text, no write failed, and no count rose
  pub taken : IsSpared out_takes err_takes (ending_reply faults ending) out err result

-- A run of the program, from how its work ended and how that was written.
use Rattle.std.specs.Prelude.{ℕ, List, Option}
use Rattle.psi_program.specs.Seen.{ShelfCall, seen_with, AgreesWith, SinkSeen}
use Rattle.psi_program.specs.Written.{IsWrittenAs}
use Rattle.psi_program.specs.Ending.{ending_reply}
use Rattle.psi_program.proofs.AcceptedLemmas.{Accepted, accepted}
use Rattle.psi_program.proofs.EdgeLemmas.{call_alone, HasRunIn, edge}
use Rattle.psi_merge.specs.declared.status.Status.{Status}
use Rattle.psi_merge.specs.declared.status.Status.TheVariants.{WriteFault}
use Rattle.psi_merge.specs.Status.{status_code}
use Rattle.psi_merge.specs.Ended.{Ended, faults, IsEnding}
use Rattle.psi_merge.specs.Call.{IsRun}
use Rattle.psi_merge.specs.Run.{IsRight, IsRunOf}
use Rattle.psi_merge.proofs.RunningLemmas.{run_is}
use Rattle.psi_merge.proofs.HeadingLemmas.{merges}

module _ (words : List (List ℕ)) (shelf : ShelfCall) (out err : SinkSeen) (result : Status) (ending : Ended)
    (ends : (told : List ℕ → Option (List ℕ)) → AgreesWith told shelf → IsEnding (seen_with shelf told) words ending)
    (written : IsWrittenAs (ending_reply faults ending) WriteFault out err result) where
  texts : Accepted (ending_reply faults ending) WriteFault out err result
  texts = accepted (ending_reply faults ending) WriteFault out err result written

  call-right : (told : List ℕ → Option (List ℕ)) → AgreesWith told shelf → IsRun (call_alone status_code words shelf out err result texts told) result
  call-right told agrees = run_is (call_alone status_code words shelf out err result texts told) ending (ends told agrees) result texts.written

  -- what crossed in the call is a run, where some contents of files agree with the answers
  pub ended_edge : (told : List ℕ → Option (List ℕ)) → AgreesWith told shelf
      → HasRunIn IsRunOf words shelf out err (status_code result)
  ended_edge = edge status_code words shelf out err result texts IsRight
      (λ told given agrees. (let right = call-right told agrees in record { call = right; merges = merges (call_alone status_code words shelf out err result texts told) result right }))

-- A run of a program, from how its ending was written.
use Rattle.std.specs.Prelude.{ℕ, List, Option, refl}
use Rattle.psi_io.specs.Shelf.{Read, Given}
use Rattle.psi_program.specs.Seen.{ShelfCall, seen_with, AgreesWith, SinkSeen}
use Rattle.psi_program.specs.Reply.{Reply}
use Rattle.psi_program.specs.Ending.{Ending, Faults, ending_reply}
use Rattle.psi_program.specs.Finished.{IsFinished}
use Rattle.psi_program.specs.Call.{Call}
use Rattle.psi_program.specs.Run.{Run, HasRun, IsRunBy}
use Rattle.psi_program.proofs.AcceptedLemmas.{Accepted, accepted, alone}

-- a shelf that isn't asked is seen as it was
abbrev pub unasked : List Given → List Read → (List ℕ → ℕ) → ShelfCall
unasked gave asked counts = record { gave_before = gave; gave_after = gave; asked_before = asked; asked_after = asked; faults_before = counts; faults_after = counts }

-- what crossed between the begin of a call and its end is a run of this kind
abbrev pub HasRunIn : (Run → Type 0) → (words : List (List ℕ)) → ShelfCall → (out err : SinkSeen) → (status : ℕ) → Type 0
HasRunIn Is words shelf out err status =
    HasRun Is words
    (record { gave = shelf.gave_before; out = out.took_before; err = err.took_before; tally = record { asked = shelf.asked_before; files = shelf.faults_before; out = out.faults_before; err = err.faults_before } })
    (record { gave = shelf.gave_after; out = out.took_after; err = err.took_after; tally = record { asked = shelf.asked_after; files = shelf.faults_after; out = out.faults_after; err = err.faults_after } })
    status

-- a call of a program, whose exit status and texts in out and err are known
module _ {Status : Type 0} (code_of : Status → ℕ) (words : List (List ℕ)) (shelf : ShelfCall) (out err : SinkSeen) (result : Status)
    {reply : Reply Status} {fault : Status} (texts : Accepted reply fault out err result) where
  -- the call, over sinks that held nothing
  abbrev pub call_alone : (List ℕ → Option (List ℕ)) → Call
  call_alone told = record { words = words; shelf = seen_with shelf told; out = alone texts.printed out; err = alone texts.reported err }

  -- the run that it is, by the answers that it was given
  abbrev pub run_given : List Given → Run
  run_given given = record {
    words = words;
    given = given;
    out = texts.printed;
    err = texts.reported;
    before = record { asked = shelf.asked_before; files = shelf.faults_before; out = out.faults_before; err = err.faults_before };
    after = record { asked = shelf.asked_after; files = shelf.faults_after; out = out.faults_after; err = err.faults_after };
    status = code_of result;
  }

  -- what crossed in the call is a run that is right, where some contents of files agree with the answers
  pub edge : (IsRight : (List ℕ → Option (List ℕ)) → Run → Status → Type 0)
      → ((told : List ℕ → Option (List ℕ)) (given : List Given) → AgreesWith told shelf → IsRight told (run_given given) result)
      → (told : List ℕ → Option (List ℕ)) → AgreesWith told shelf
      → HasRunIn (IsRunBy code_of IsRight) words shelf out err (code_of result)
  edge IsRight right told agrees = record {
    given = agrees.given;
    out = texts.printed;
    err = texts.reported;
    gave = agrees.since;
    printed = texts.out_took;
    reported = texts.err_took;
    is = record {
      result = result;
      code = refl;
      right = λ other prefixes. right other agrees.given (record { given = agrees.given; since = agrees.since; prefixes = prefixes });
    };
  }

-- an ending that was written was written to sinks that held nothing, too
module _ {Status File : Type 0} {faults : Faults Status File} {Is : Ending Status File → Type 0} {out_takes err_takes : ℕ → Type 0} {out err : SinkSeen} {result : Status}
    (finished : IsFinished faults Is out_takes err_takes out err result) where
  pub texts : Accepted (ending_reply faults finished.ending) faults.write_fault out err result
  texts = accepted (ending_reply faults finished.ending) faults.write_fault out err result finished.written

  pub finished_alone : IsFinished faults Is out_takes err_takes (alone texts.printed out) (alone texts.reported err) result
  finished_alone = record { ending = finished.ending; is = finished.is; written = texts.written; taken = finished.taken }

-- What a call is seen to do, from its ending and how that was written.
use Rattle.std.specs.Prelude.{◌≡◌, ℕ, List, false}
use Rattle.std.proofs.Common.{rules, inl, inr, sym, ◌∙◌, subst}
use Rattle.psi_program.specs.Seen.{ShelfSeen}
use Rattle.psi_program.specs.Written.{IsWrittenAs}
use Rattle.psi_program.specs.Ending.{ending_reply}
use Rattle.psi_program.specs.Call.{Call}
use Rattle.psi_program.proofs.RunningLemmas.{IsProgram, runs}
use Rattle.psi_merge.specs.declared.status.Status.{Status}
use Rattle.psi_merge.specs.declared.status.Status.TheVariants as status
use Rattle.psi_merge.specs.Status.{IsReplied, IsReported}
use Rattle.psi_merge.specs.Reply.{are_files}
use Rattle.psi_merge.specs.Seen.{AreAsked}
use Rattle.psi_merge.specs.Ended.{Ended, faults, IsReplyTo, IsEnding}
use Rattle.psi_merge.specs.Call.{reply_to_call, unread_line_of, HasFiles, IsRun}

-- the reads of a call with one status, and of one that ends with another, which isn't done where that isn't
asked-as : (shelf : ShelfSeen) (words : List (List ℕ)) (one other : Status) → (other ≡ status.Done → one ≡ status.Done) → AreAsked shelf words one → AreAsked shelf words other
asked-as shelf words one other done (inl none) = inl none
asked-as shelf words one other done (inr asked) = inr (record { files = asked.files; last = asked.last; all = λ e. asked.all (done e) })

-- a call that is done has replied
done-replied : (code : Status) → code ≡ status.Done → IsReplied code
done-replied code done = subst IsReplied (sym done) tt

module _ (call : Call) where
  abbrev IsDone : Status → Type 0
  IsDone code = code ≡ status.Done

  abbrev HasNoFiles : Type 0
  HasNoFiles = are_files call.words ≡ false

  is-program : IsProgram faults status.Usage IsReplied IsReported IsDone (IsReplyTo call.words) call (reply_to_call call) (unread_line_of call) (HasFiles call) HasNoFiles
  is-program = record {
    statuses = search (rules, done-replied);
    own = λ given is. record { replied = is.replied; other = is.usage; told = is.no_files; reported = is.reported; printed = is.printed };
    asked = λ files none. absurd cc;
    read = λ cause. cause.files;
  }

  pub run_is : (ending : Ended) → IsEnding call.shelf call.words ending → (result : Status) → IsWrittenAs (ending_reply faults ending) status.WriteFault call.out call.err result → IsRun call result
  run_is ending is result written =
      let run = runs faults status.Usage IsReplied IsReported IsDone (IsReplyTo call.words) call (reply_to_call call) (unread_line_of call) (HasFiles call) HasNoFiles
      is-program ending (record { may = is.reply; cause = is.cause }) result written in
      let reads = asked-as call.shelf call.words (ending_reply faults ending).status result (done written) is.asked in
      assumption (run, reads)
    where
      done : IsWrittenAs (ending_reply faults ending) status.WriteFault call.out call.err result → result ≡ status.Done → (ending_reply faults ending).status ≡ status.Done
      done (inl whole) e = sym whole.0 ∙ e
      done (inr cut) e = (let same = cut.0 in absurd cc)

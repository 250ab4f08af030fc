-- What a call is seen to do, from how its work ended and how that was written.
use Rattle.std.specs.Prelude.{◌≡◌, ℕ, List, [], Option, Result, Ok, Err, IsOk, IsErr, IfOk, refl}
use Rattle.std.proofs.Common.{sym, ap, ◌∙◌, subst}
use Rattle.psi_io.specs.Sink.{appended}
use Rattle.psi_program.specs.Seen.{ShelfSeen, IsUnread}
use Rattle.psi_program.specs.Written.{IsWrittenAs}
use Rattle.psi_program.specs.Ending.{replied, unread, no_memory, ending_reply, IsCaused as IsCausedBy}
use Rattle.psi_program.specs.Call.{Call}
use Rattle.psi_program.proofs.RunningLemmas.{IsProgram, runs}
use Rattle.psi_command.specs.declared.status.Status.{Status}
use Rattle.psi_command.specs.declared.status.Status.TheVariants as status
use Rattle.psi_command.specs.Status.{IsPrinted, IsReported, IsReplied}
use Rattle.psi_command.specs.Command.{File}
use Rattle.psi_reply.specs.Lines.{unread_line}
use Rattle.psi_reply.specs.Reply.{Reply}
use Rattle.psi_reply.specs.Ending.{Ending}
use Rattle.psi_run.proofs.RunningLemmas.{ok-not_err, are-statuses}
use Rattle.psi_streams.specs.Asked.{Asked, TableProgram}
use Rattle.psi_streams.specs.Named.{named_line, faults}
use Rattle.psi_streams.specs.Reply.{IsOfTable, IsReplyTo}
use Rattle.psi_streams.specs.Means.{Means}
use Rattle.psi_streams.specs.Ended.{IsCaused, IsMeant, IsEnding}
use Rattle.psi_streams.specs.Call.{reply_to_call, HasTable, ReadFailed, unread_line_of, IsStatusOf, IsRun}

-- ---- what is known of a reply

table-replied : (total : Option ℕ) (s : Status) → IsOfTable total s → IsReplied s
table-replied total status.Done k = tt
table-replied total status.NotCoupled k = tt
table-replied total status.NetRefused k = tt
table-replied total status.NotClosed k = tt
table-replied total status.NoSuchTotal k = tt
table-replied total s k = absurd k

module _ (name : List ℕ) where
  reply-replied : (words : Result Asked ℕ) (reply : Reply) → IsReplyTo name words reply → IsReplied reply.status
  reply-replied (Ok asked) reply is = table-replied asked.table.total reply.status is.status
  reply-replied (Err place) reply is = subst (λ (r : Reply). IsReplied r.status) (sym is) tt

  reply-usage : (words : Result Asked ℕ) (reply : Reply) → IsReplyTo name words reply → reply.status ≡ status.Usage → IsErr words
  reply-usage (Ok asked) reply is usage = absurd (subst (IsOfTable asked.table.total) usage is.status)
  reply-usage (Err place) reply is usage = refl

  reply-no_table : (words : Result Asked ℕ) (reply : Reply) → IsReplyTo name words reply → IsErr words → reply.status ≡ status.Usage
  reply-no_table (Ok asked) reply is wrong = absurd cc
  reply-no_table (Err place) reply is wrong = ap (λ (r : Reply). r.status) is

  reply-out : (words : Result Asked ℕ) (reply : Reply) → IsReplyTo name words reply → IsReported reply.status → reply.out ≡ []
  reply-out (Ok asked) reply is reported = is.reported reported
  reply-out (Err place) reply is reported = ap (λ (r : Reply). r.out) is

  reply-err : (words : Result Asked ℕ) (reply : Reply) → IsReplyTo name words reply → IsPrinted reply.status → reply.err ≡ []
  reply-err (Ok asked) reply is printed = is.printed printed
  reply-err (Err place) reply is printed = absurd (subst (λ (r : Reply). IsPrinted r.status) is printed)

  reply-kind : (words : Result Asked ℕ) (reply : Reply) (result : Status) → IsReplyTo name words reply → reply.status ≡ result → IsStatusOf words result
  reply-kind (Ok asked) reply result is same = subst (IsOfTable asked.table.total) same is.status
  reply-kind (Err place) reply result is same = sym same ∙ ap (λ (r : Reply). r.status) is

-- ---- a call

module _ (program : TableProgram) (call : Call) where
  abbrev words : Result Asked ℕ
  words = program.asked call.words

  is-program : IsProgram (faults program.name) status.Usage IsReplied IsReported IsPrinted (IsReplyTo program.name words) call (reply_to_call program call) (unread_line_of program call)
      (HasTable program call) (IsErr words)
  is-program = record {
    statuses = are-statuses;
    own = λ given is. record {
      replied = reply-replied program.name words given is;
      other = reply-usage program.name words given is;
      told = reply-no_table program.name words given is;
      reported = reply-out program.name words given is;
      printed = reply-err program.name words given is;
    };
    asked = ok-not_err words;
    read = λ cause. subst (λ (a : Result Asked ℕ). IsOk a) (sym cause.is) refl;
  }

  abbrev IsUnreadBy : File → Type 0
  IsUnreadBy file = (cause : ReadFailed program call) × (named_line program.name (unread_line file) ≡ unread_line_of program call cause)

  cause-of : (end : Ending) → IsCaused program.name call.shelf words end → IsCausedBy (IsReplyTo program.name words) IsUnreadBy (HasTable program call) end
  cause-of (replied given) cause = cause
  cause-of (unread file) cause = (cause.cause, ap (λ (f : File). named_line program.name (unread_line f)) cause.is)
  cause-of no_memory cause = cause

  pub run_is : (end : Ending) (result : Status) → IsWrittenAs (ending_reply (faults program.name) end) status.WriteFault call.out call.err result
      → IsEnding program.name call.shelf words end → IsRun program call result
  run_is end result written is =
      let run = runs (faults program.name) status.Usage IsReplied IsReported IsPrinted (IsReplyTo program.name words) call (reply_to_call program call) (unread_line_of program call)
      (HasTable program call) (IsErr words) is-program end (record { may = is.reply; cause = cause-of end is.cause }) result written in
      let kind : IsReplied result → IsStatusOf words result = λ kind. (let own = run.own kind in reply-kind program.name words own.0 result own.1 own.2) in
      assumption (run, is.reads, kind)

module _ (name : List ℕ) (shelf : ShelfSeen) (words : Result Asked ℕ) where
  -- once the ending's text is written whole, a reply's status means what the table says
  pub run_means : (end : Ending) (before after : Option (List ℕ)) (result : Status) (asked : Asked)
      → IsEnding name shelf words end → after ≡ appended before (ending_reply (faults name) end).out → result ≡ (ending_reply (faults name) end).status → words ≡ Ok asked → IsReplied result
      → Means asked shelf.told before after result
  run_means (replied given) before after result asked is grew same asks kind =
      let meant : IsMeant shelf.told (replied given) asked = subst (λ w. IfOk w (IsMeant shelf.told (replied given))) asks is.means in
      subst (λ s. Means asked shelf.told before after s) (sym same) (meant before after grew)
  run_means (unread file) before after result asked is grew same asks kind = absurd (subst IsReplied same kind)
  run_means no_memory before after result asked is grew same asks kind = absurd (subst IsReplied same kind)

  -- the work for a table ended with a reply, where no read of its network file failed and memory didn't run out
  table-ended : (end : Ending) (asked : Asked) → IsEnding name shelf words end → words ≡ Ok asked
      → (IsUnread shelf asked.table.net → ⊥) → ((ending_reply (faults name) end).status ≡ status.OutOfMemory → ⊥) → IsReplied (ending_reply (faults name) end).status
  table-ended (replied given) asked is asks read memory = reply-replied name words given is.cause
  table-ended (unread file) asked is asks read memory =
      let cause = is.cause.cause in
      let same : cause.asked ≡ asked = cc in
      absurd (read (subst (λ (t : Asked). IsUnread shelf t.table.net) same cause.unread))
  table-ended no_memory asked is asks read memory = absurd (memory refl)

  pub run_headline : (end : Ending) (before after : Option (List ℕ)) (result : Status) (asked : Asked) → IsEnding name shelf words end
      → after ≡ appended before (ending_reply (faults name) end).out → result ≡ (ending_reply (faults name) end).status → words ≡ Ok asked
      → (IsUnread shelf asked.table.net → ⊥) → (result ≡ status.OutOfMemory → ⊥) → Means asked shelf.told before after result
  run_headline end before after result asked is grew same asks read memory =
      run_means end before after result asked is grew same asks
      (subst IsReplied (sym same) (table-ended end asked is asks read (λ e. memory (same ∙ e))))

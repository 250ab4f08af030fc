-- What a call is seen to do, from how its work ended and how that was written.
use Rattle.std.specs.Prelude.{◌≡◌, ℕ, zero, suc, List, [], ◌∷◌, Option, Some, Result, Ok, Err, IsOk, IsErr, IsOkAnd, IfOk, Contains, refl}
use Rattle.std.proofs.Common.{rules, sym, ap, ◌∙◌, subst, arith, inl, inr}
use Rattle.psi_io.specs.Sink.{appended}
use Rattle.psi_program.specs.Seen.{ShelfSeen, IsUnread}
use Rattle.psi_program.specs.Written.{IsWrittenAs}
use Rattle.psi_program.specs.Call.{Call}
use Rattle.psi_program.proofs.RunningLemmas.{AreStatuses, IsProgram, runs}
use Rattle.psi_reply.specs.Lines.{unread_line}
use Rattle.psi_net_model.specs.Network.{Network}
use Rattle.psi_net.specs.Reading.{network_of}
use Rattle.psi_command.specs.declared.status.Status.{Status}
use Rattle.psi_command.specs.declared.status.Status.TheVariants as ending
use Rattle.psi_command.specs.Status.{IsPrinted, IsReported, IsReplied, IsOfCommand}
use Rattle.psi_command.specs.Command.{Command, sample, File, net_file, file_name}
use Rattle.psi_command.specs.Words.{command_of}
use Rattle.psi_reply.specs.Sample.{IsSampled}
use Rattle.psi_reply.specs.Reply.{Reply}
use Rattle.psi_run.specs.Reply.{IsReplyTo}
use Rattle.psi_run.specs.Means.{Means}
use Rattle.psi_run.specs.Reads.{IsRead, AreAsked}
use Rattle.psi_program.specs.Ending.{replied, unread, no_memory, IsCaused as IsCausedBy}
use Rattle.psi_reply.specs.Ending.{Ending, faults, ending_reply}
use Rattle.psi_run.specs.Ending.{IsMeant, IsCaused, IsEnding}
use Rattle.psi_run.specs.Call.{reply_to_call, IsCommand, ReadFailed, unread_line_of, IsRun}
use Rattle.psi_run.proofs.ReadFilesLemmas.{asked_cut}

-- a result is not both
pub ok-not_err : {A B : Type 0} (r : Result A B) → IsOk r → IsErr r → ⊥
ok-not_err (Ok a) ok err = absurd cc
ok-not_err (Err b) ok err = absurd cc

-- ---- what is known of a reply's status

command-replied : (status : Status) (command : Command) → IsOfCommand status command → IsReplied status
command-replied status command k = grind arith

reply-replied : (command : Result Command ℕ) (reply : Reply) → IsReplyTo command reply → IsReplied reply.status
reply-replied (Ok command) reply is = command-replied reply.status command is.status
reply-replied (Err place) reply is = subst (λ (r : Reply). IsReplied r.status) (sym is) tt

-- status 2 is the reply to words that aren't a command, and to no others
reply-usage : (command : Result Command ℕ) (reply : Reply) → IsReplyTo command reply → reply.status ≡ ending.Usage → IsErr command
reply-usage (Ok command) reply is usage = absurd (subst (λ (s : Status). IsOfCommand s command) usage is.status)
reply-usage (Err place) reply is usage = refl

reply-no_command : (command : Result Command ℕ) (reply : Reply) → IsReplyTo command reply → IsErr command → reply.status ≡ ending.Usage
reply-no_command (Ok command) reply is wrong = absurd cc
reply-no_command (Err place) reply is wrong = ap (λ (r : Reply). r.status) is

-- a status other than that comes only with a command that has it
reply-has : (command : Result Command ℕ) (reply : Reply) (status : Status) → (ending.Usage ≡ status → ⊥) → IsReplyTo command reply → reply.status ≡ status
    → IsOkAnd command (IsOfCommand status)
reply-has (Ok command) reply status no_usage is same = subst (λ (s : Status). IsOfCommand s command) same is.status
reply-has (Err place) reply status no_usage is same = absurd (no_usage (sym (ap (λ (r : Reply). r.status) is) ∙ same))

-- a reply has one text
reply-out : (command : Result Command ℕ) (reply : Reply) → IsReplyTo command reply → IsReported reply.status → reply.out ≡ []
reply-out (Ok command) reply is reported = is.reported reported
reply-out (Err place) reply is reported = ap (λ (r : Reply). r.out) is

reply-err : (command : Result Command ℕ) (reply : Reply) → IsReplyTo command reply → IsPrinted reply.status → reply.err ≡ []
reply-err (Ok command) reply is printed = is.printed printed
reply-err (Err place) reply is printed = absurd (subst (λ (r : Reply). IsPrinted r.status) is printed)

-- ---- what is known of the statuses and the words

printed-replied : (status : Status) → IsPrinted status → IsReplied status
printed-replied status printed = grind arith

pub are-statuses : AreStatuses ending.ReadFault ending.WriteFault ending.OutOfMemory ending.Usage IsReplied IsReported IsPrinted
are-statuses = search (rules, printed-replied)

read-ok : (command : Result Command ℕ) (file : File) → IsRead command file → IsOk command
read-ok (Ok command) file read = refl
read-ok (Err place) file read = absurd read

-- ---- a call

module _ (call : Call) where
  abbrev asked : Result Command ℕ
  asked = command_of call.words

  is-program : IsProgram faults ending.Usage IsReplied IsReported IsPrinted (IsReplyTo asked) call (reply_to_call call) (unread_line_of call) (IsCommand call) (IsErr asked)
  is-program = record {
    statuses = are-statuses;
    own = λ given is. record {
      replied = reply-replied asked given is;
      other = reply-usage asked given is;
      told = reply-no_command asked given is;
      reported = reply-out asked given is;
      printed = reply-err asked given is;
    };
    asked = ok-not_err asked;
    read = λ cause. read-ok asked cause.file cause.missed.read;
  }

  abbrev IsUnreadBy : File → Type 0
  IsUnreadBy file = (cause : ReadFailed call) × (unread_line file ≡ unread_line_of call cause)

  cause-of : (end : Ending) → IsCaused call.shelf asked end → IsCausedBy (IsReplyTo asked) IsUnreadBy (IsCommand call) end
  cause-of (replied given) cause = cause
  cause-of (unread file) cause = (record { file = file; missed = cause }, refl)
  cause-of no_memory cause = cause

  module _ (end : Ending) (result : Status) (written : IsWrittenAs (ending_reply end) ending.WriteFault call.out call.err result) where
    reads-as : IsWrittenAs (ending_reply end) ending.WriteFault call.out call.err result → AreAsked call.shelf asked (ending_reply end).status → AreAsked call.shelf asked result
    reads-as (inl whole) reads = subst (AreAsked call.shelf asked) (sym whole.0) reads
    reads-as (inr cut) reads = subst (AreAsked call.shelf asked) (sym cut.0) (asked_cut call.shelf asked (ending_reply end).status reads)

    pub run_is : IsEnding call.shelf asked end → AreAsked call.shelf asked (ending_reply end).status → IsRun call result
    run_is is reads =
        let run = runs faults ending.Usage IsReplied IsReported IsPrinted (IsReplyTo asked) call (reply_to_call call) (unread_line_of call) (IsCommand call) (IsErr asked)
        is-program end (record { may = is.reply; cause = cause-of end is.cause }) result written in
        let has : (status : Status) → (ending.Usage ≡ status → ⊥) → IsReplied status → result ≡ status → IsOkAnd asked (IsOfCommand status) =
        λ status no_usage kind same. (let own = run.own (subst IsReplied (sym same) kind) in reply-has asked own.0 status no_usage own.1 (own.2 ∙ same)) in
        assumption (
          run,
          reads-as written reads,
          has ending.LogRefused (λ e. absurd cc) tt,
          has ending.LogTooLong (λ e. absurd cc) tt,
          has ending.UnknownReward (λ e. absurd cc) tt,
          has ending.TooManyStates (λ e. absurd cc) tt,
          has ending.NotClosed (λ e. absurd cc) tt,
          has ending.NoSuchTotal (λ e. absurd cc) tt,
        )

-- once the ending's text is written whole, a reply's status means what the command says
pub run_means : (shelf : ShelfSeen) (words : Result Command ℕ) (end : Ending) (before after : Option (List ℕ)) (result : Status) (command : Command)
    → IsEnding shelf words end → after ≡ appended before (ending_reply end).out → result ≡ (ending_reply end).status → words ≡ Ok command → IsReplied result
    → Means command shelf.told before after result
run_means shelf words (replied given) before after result command is grew same asked kind =
    let meant : IsMeant shelf.told (replied given) command = subst (λ w. IfOk w (IsMeant shelf.told (replied given))) asked is.means in
    subst (λ s. Means command shelf.told before after s) (sym same) (meant before after grew)
run_means shelf words (unread file) before after result command is grew same asked kind = absurd (subst IsReplied same kind)
run_means shelf words no_memory before after result command is grew same asked kind = absurd (subst IsReplied same kind)

-- the one file that a sample reads is its network's
sample-reads : (words : Result Command ℕ) (name : List ℕ) (seed stream : ℕ) (file : File) → words ≡ Ok (sample name seed stream) → IsRead words file → file ≡ net_file name
sample-reads words name seed stream file asked read = alone (subst (λ w. IsRead w file) asked read)
  where
    alone : Contains (net_file name ∷ []) file → file ≡ net_file name
    alone (zero, small, at) = sym at
    alone (suc k, small, at) = absurd (omega arith)

-- the work for a sample ended with a reply, where no read failed and memory didn't run out
sample-replied : (shelf : ShelfSeen) (words : Result Command ℕ) (end : Ending) (name : List ℕ) (seed stream : ℕ) → IsEnding shelf words end
    → words ≡ Ok (sample name seed stream) → (IsUnread shelf name → ⊥) → ((ending_reply end).status ≡ ending.OutOfMemory → ⊥)
    → IsReplied (ending_reply end).status
sample-replied shelf words (replied given) name seed stream is asked read memory = reply-replied words given is.cause
sample-replied shelf words (unread file) name seed stream is asked read memory =
    absurd (read (subst (λ f. IsUnread shelf (file_name f)) (sample-reads words name seed stream file asked is.cause.read) is.cause.rose))
sample-replied shelf words no_memory name seed stream is asked read memory = absurd (memory refl)

pub run_headline : (shelf : ShelfSeen) (words : Result Command ℕ) (end : Ending) (before after : Option (List ℕ)) (result : Status) → IsEnding shelf words end
    → after ≡ appended before (ending_reply end).out → result ≡ (ending_reply end).status → (name : List ℕ) (seed stream : ℕ) (bytes : List ℕ) (net : Network)
    → words ≡ Ok (sample name seed stream) → shelf.told name ≡ Some bytes → network_of bytes ≡ Ok net
    → (IsUnread shelf name → ⊥) → (result ≡ ending.OutOfMemory → ⊥) → IsSampled before after result net seed stream
run_headline shelf words end before after result is grew same name seed stream bytes net asked there accepted read memory =
    run_means shelf words end before after result (sample name seed stream) is grew same asked
    (subst IsReplied (sym same) (sample-replied shelf words end name seed stream is asked read (λ e. memory (same ∙ e))))
    bytes net there accepted

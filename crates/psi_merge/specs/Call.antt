-- What a call of the program is seen to do.
use Rattle.std.specs.Prelude.{◌≡◌, ℕ, ◌<◌, ◌^◌, List, [], ◌∷◌, length, Option, Some, IfSome, true, false, ◌⊎◌}
use Rattle.std.specs.List.{flat_map}
use Rattle.psi_program.specs.Seen.{Grew, IsUnchanged, HasFailed}
use Rattle.psi_program.specs.Call.{Call, ReadFaulted, OutFaulted, ErrFaulted, MemoryLacked}
use Rattle.psi_state.specs.declared.Outcome.{Outcome}
use Rattle.psi_net_model.specs.Network.{Network}
use Rattle.psi_report.specs.Report.{report_text}
use Rattle.psi_report_reader.specs.Samples.{AreOf}
use Rattle.psi_merge.specs.declared.status.Status.{Status}
use Rattle.psi_merge.specs.declared.status.Status.TheVariants.{Done, Usage, ReadFault, WriteFault, OutOfMemory}
use Rattle.psi_merge.specs.Status.{IsReplied, IsReported}
use Rattle.psi_merge.specs.Reply.{Reply, are_files, reply_to, unread_line, memory_line}
use Rattle.psi_merge.specs.Seen.{HasUnread, AreAsked}

-- the reply to a call, where its shelf tells the files that are read
abbrev pub reply_to_call : Call → Option Reply
reply_to_call call = reply_to call.shelf.told call.words

-- the line on a failed read of a call
abbrev pub unread_line_of : (call : Call) → HasUnread call.shelf call.words → List ℕ
unread_line_of call cause = unread_line cause.last.name

-- the words of a call are files
abbrev pub HasFiles : Call → Type 0
HasFiles call = are_files call.words ≡ true

-- what the status of a call says of it
pub record IsRun (call : Call) (result : Status) : Type 0 where
  -- where the shelf's model has the files that are read, a status of a reply, that is one from 0 to 5, is the reply's, whatever counts rose
  pub status : IfSome (reply_to_call call) (λ reply. IsReplied result → result ≡ reply.status)
  -- and with such a status each sink whose model has what it holds grew by exactly the reply's text
  pub out : IfSome (reply_to_call call) (λ reply. IsReplied result → Grew call.out reply.out)
  pub err : IfSome (reply_to_call call) (λ reply. IsReplied result → Grew call.err reply.err)
  -- each file is read once, in the words' order and with its limit, only where those before it are accepted and merged, and nothing else is read
  pub reads : AreAsked call.shelf call.words result
  -- where no count of out, of err or of a file that is needed rose in the call, the status is that of a reply, or 8
  pub complete : ¬ (HasFailed call.out) → ¬ (HasFailed call.err) → ¬ (HasUnread call.shelf call.words) → IsReplied result ⊎ (result ≡ OutOfMemory)
  -- status 2 comes only where the words aren't files, and where they aren't, it comes unless err fails
  pub usage : result ≡ Usage → are_files call.words ≡ false
  pub no_files : are_files call.words ≡ false → (result ≡ Usage) ⊎ (result ≡ WriteFault)
  -- the causes of the statuses 6, 7 and 8, with what was written
  pub read_fault : result ≡ ReadFault → ReadFaulted call (unread_line_of call)
  pub write_fault : result ≡ WriteFault → OutFaulted call (reply_to_call call) ⊎ ErrFaulted call (reply_to_call call) (unread_line_of call) (HasFiles call) memory_line
  pub no_memory : result ≡ OutOfMemory → MemoryLacked call (HasFiles call) memory_line
  -- with the statuses 2 to 6 and 8 nothing is written to out, and with 0 nothing to err
  pub silent_out : IsReported result → IsUnchanged call.out
  pub silent_err : result ≡ Done → IsUnchanged call.err

-- the shelf tells of each word the report of its list of samples of the network
abbrev pub AreReports : Network → (List ℕ → Option (List ℕ)) → List (List ℕ) → List (List Outcome) → Type 0
AreReports net told [] [] = Unit {0}
AreReports net told (word ∷ words) (outcomes ∷ lists) =
    (told word ≡ Some (report_text net outcomes)) × AreReports net told words lists
AreReports net told words lists = ⊥

-- the lists, one after another
abbrev pub all_of : List (List Outcome) → List Outcome
all_of lists = flat_map (λ outcomes. outcomes) lists

-- less than 2^64 samples of a network that a file may describe
pub record AreFewOf (net : Network) (outcomes : List Outcome) : Type 0 where
  pub samples : AreOf net outcomes
  pub few : length outcomes < 2 ^ 64

-- the call is done, and out grew by the report of all lists
pub record IsMerged (call : Call) (result : Status) (net : Network) (lists : List (List Outcome)) : Type 0 where
  pub done : result ≡ Done
  pub text : Grew call.out (report_text net (all_of lists))

-- where the words are files, the shelf tells of them the reports of lists of samples of one network, no count rose and memory didn't run out,
-- out grew by the report of all lists, one after another
abbrev pub MergesReports : Call → Status → Type 0
MergesReports call result = (net : Network) (lists : List (List Outcome)) → are_files call.words ≡ true → AreReports net call.shelf.told call.words lists
    → AreFewOf net (all_of lists) → ¬ (HasFailed call.out) → ¬ (HasFailed call.err) → ¬ (HasUnread call.shelf call.words) → ¬ (result ≡ OutOfMemory)
    → IsMerged call result net lists

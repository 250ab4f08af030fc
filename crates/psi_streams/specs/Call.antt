-- What a call of a program that prints tables is seen to do.
use Rattle.std.specs.Prelude.{◌≡◌, ℕ, List, Option, Result, Ok, Err, IsOk, IsErr, IfSome, ◌⊎◌}
use Rattle.psi_program.specs.Seen.{Grew, IsUnchanged, HasFailed}
use Rattle.psi_program.specs.Call.{Call, ReadFaulted, OutFaulted, ErrFaulted, MemoryLacked, AreTaken as AreTakenOf}
use Rattle.psi_command.specs.declared.status.Status.{Status}
use Rattle.psi_command.specs.declared.status.Status.TheVariants.{Usage, ReadFault, WriteFault, OutOfMemory}
use Rattle.psi_command.specs.Status.{IsPrinted, IsReported, IsReplied}
use Rattle.psi_command.specs.Command.{net_file}
use Rattle.psi_reply.specs.Lines.{unread_line, memory_line}
use Rattle.psi_reply.specs.Reply.{Reply}
use Rattle.psi_streams.specs.Asked.{Asked, TableProgram}
use Rattle.psi_streams.specs.Named.{named_line}
use Rattle.psi_streams.specs.Reply.{reply_to, IsOfTable}
use Rattle.psi_streams.specs.Seen.{HasUnread, AreAsked}

-- the statuses that a reply to the words can have
abbrev pub IsStatusOf : Result Asked ℕ → Status → Type 0
IsStatusOf (Ok asked) status = IsOfTable asked.table.total status
IsStatusOf (Err place) status = status ≡ Usage

-- out and err take the reply's texts, and where the words ask for a table, err takes the line on memory that ran out
abbrev pub AreTaken : (name : List ℕ) → (out_takes err_takes : ℕ → Type 0) → Result Asked ℕ → Reply → Type 0
AreTaken name out_takes err_takes words reply = AreTakenOf out_takes err_takes (IsOk words) (named_line name memory_line) reply

module _ (program : TableProgram) where
  -- the reply to a call, where its shelf tells the network file
  abbrev pub reply_to_call : Call → Option Reply
  reply_to_call call = reply_to program.name (program.asked call.words) call.shelf.told

  -- the words ask for a table
  abbrev pub HasTable : Call → Type 0
  HasTable call = IsOk (program.asked call.words)

  -- the words ask for a table, and a read of its network file failed
  abbrev pub ReadFailed : Call → Type 0
  ReadFailed call = HasUnread call.shelf (program.asked call.words)

  -- the line on a failed read of a call
  abbrev pub unread_line_of : (call : Call) → ReadFailed call → List ℕ
  unread_line_of call cause = named_line program.name (unread_line (net_file cause.asked.table.net))

  -- the line on memory that ran out
  abbrev pub no_memory_line : List ℕ
  no_memory_line = named_line program.name memory_line

  -- what the status of a call says of it
  pub record IsRun (call : Call) (result : Status) : Type 0 where
    -- where the shelf tells the network file, a status of a reply is the reply's, whatever counts rose
    pub status : IfSome (reply_to_call call) (λ reply. IsReplied result → result ≡ reply.status)
    -- and with such a status each sink that tells what it holds grew by exactly the reply's text
    pub out : IfSome (reply_to_call call) (λ reply. IsReplied result → Grew call.out reply.out)
    pub err : IfSome (reply_to_call call) (λ reply. IsReplied result → Grew call.err reply.err)
    -- the network file is read once with its limit, where the words ask for a table, and nothing else is read
    pub reads : AreAsked call.shelf (program.asked call.words)
    -- where no count of out, of err or of the network file rose in the call, the status is that of a reply, or 8
    pub complete : ¬ (HasFailed call.out) → ¬ (HasFailed call.err) → ¬ (ReadFailed call) → IsReplied result ⊎ (result ≡ OutOfMemory)
    -- status 2 comes only where the words don't ask for a table, and where they don't, it comes unless err fails
    pub usage : result ≡ Usage → IsErr (program.asked call.words)
    pub no_table : IsErr (program.asked call.words) → (result ≡ Usage) ⊎ (result ≡ WriteFault)
    -- a status of a reply is 0 to 3, 11 or 12, the last two only where the words ask for a closed network
    pub kind : IsReplied result → IsStatusOf (program.asked call.words) result
    -- the causes of the statuses 6, 7 and 8, with what was written
    pub read_fault : result ≡ ReadFault → ReadFaulted call (unread_line_of call)
    pub write_fault : result ≡ WriteFault → OutFaulted call (reply_to_call call) ⊎ ErrFaulted call (reply_to_call call) (unread_line_of call) (HasTable call) no_memory_line
    pub no_memory : result ≡ OutOfMemory → MemoryLacked call (HasTable call) no_memory_line
    -- with the statuses 2 to 6 and 8 to 12 nothing is written to out, and with 0 and 1 nothing to err
    pub silent_out : IsReported result → IsUnchanged call.out
    pub silent_err : IsPrinted result → IsUnchanged call.err

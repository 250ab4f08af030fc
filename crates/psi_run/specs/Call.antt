-- What a call of the program is seen to do.
use Rattle.std.specs.Prelude.{◌≡◌, ℕ, List, Option, Result, IsOk, IsErr, IsOkAnd, IfSome, ◌⊎◌}
use Rattle.psi_program.specs.Seen.{Grew, IsUnchanged, HasFailed}
use Rattle.psi_program.specs.Call.{Call, ReadFaulted, OutFaulted, ErrFaulted, MemoryLacked, AreTaken as AreTakenOf}
use Rattle.psi_command.specs.declared.status.Status.{Status}
use Rattle.psi_command.specs.declared.status.Status.TheVariants.{Usage, LogRefused, LogTooLong, ReadFault, WriteFault, OutOfMemory, UnknownReward, TooManyStates, NotClosed, NoSuchTotal}
use Rattle.psi_command.specs.Status.{IsReplay, IsCertify, IsReward, IsExact, IsClosed, IsPrinted, IsReported, IsReplied}
use Rattle.psi_command.specs.Command.{Command}
use Rattle.psi_command.specs.Words.{command_of}
use Rattle.psi_reply.specs.Lines.{unread_line, memory_line}
use Rattle.psi_reply.specs.Reply.{Reply}
use Rattle.psi_run.specs.Reply.{reply_to}
use Rattle.psi_run.specs.Reads.{HasUnread, AreAsked}

-- the reply to a call, where its shelf tells the file needed
abbrev pub reply_to_call : Call → Option Reply
reply_to_call call = reply_to (command_of call.words) call.shelf.told

-- the words are a command
abbrev pub IsCommand : Call → Type 0
IsCommand call = IsOk (command_of call.words)

-- a read failed of a file that the words name and that is needed
abbrev pub ReadFailed : Call → Type 0
ReadFailed call = HasUnread call.shelf (command_of call.words)

-- the line on a failed read of a call
abbrev pub unread_line_of : (call : Call) → ReadFailed call → List ℕ
unread_line_of call cause = unread_line cause.file

-- out and err take the reply's texts, and where the words are a command, err takes the line on memory that ran out
abbrev pub AreTaken : (out_takes err_takes : ℕ → Type 0) → Result Command ℕ → Reply → Type 0
AreTaken out_takes err_takes command reply = AreTakenOf out_takes err_takes (IsOk command) memory_line reply

-- what the status of a call says of it
pub record IsRun (call : Call) (result : Status) : Type 0 where
  -- where the shelf's model has the file needed, a status of a reply, that is one from 0 to 5 or 9 to 12, is the reply's, whatever counts rose
  pub status : IfSome (reply_to_call call) (λ reply. IsReplied result → result ≡ reply.status)
  -- and with such a status each sink whose model has what it holds grew by exactly the reply's text
  pub out : IfSome (reply_to_call call) (λ reply. IsReplied result → Grew call.out reply.out)
  pub err : IfSome (reply_to_call call) (λ reply. IsReplied result → Grew call.err reply.err)
  -- each file that the words name is read once, in their order and with its limit, and nothing else is read; a log only once its network
  -- is accepted, and where it isn't read, a status of a reply is 3
  pub reads : AreAsked call.shelf (command_of call.words) result
  -- where no count of out, of err or of a file of the command rose in the call, the status is that of a reply, or 8
  pub complete : ¬ (HasFailed call.out) → ¬ (HasFailed call.err) → ¬ (ReadFailed call) → IsReplied result ⊎ (result ≡ OutOfMemory)
  -- status 2 comes only where the words aren't a command, and where they aren't, it comes unless err fails
  pub usage : result ≡ Usage → IsErr (command_of call.words)
  pub no_command : IsErr (command_of call.words) → (result ≡ Usage) ⊎ (result ≡ WriteFault)
  -- status 4 comes only where the words are a replay, and status 5 only where they ask for the log of a sample
  pub log_refused : result ≡ LogRefused → IsOkAnd (command_of call.words) IsReplay
  pub log_too_long : result ≡ LogTooLong → IsOkAnd (command_of call.words) IsCertify
  -- status 9 comes only where the words ask for the value of a reward, status 10 only where they ask for the composed map of all states, and
  -- the statuses 11 and 12 only where they ask for a sample of a closed network
  pub unknown_reward : result ≡ UnknownReward → IsOkAnd (command_of call.words) IsReward
  pub too_many_states : result ≡ TooManyStates → IsOkAnd (command_of call.words) IsExact
  pub not_closed : result ≡ NotClosed → IsOkAnd (command_of call.words) IsClosed
  pub no_such_total : result ≡ NoSuchTotal → IsOkAnd (command_of call.words) IsClosed
  -- the causes of the statuses 6, 7 and 8, with what was written
  pub read_fault : result ≡ ReadFault → ReadFaulted call (unread_line_of call)
  pub write_fault : result ≡ WriteFault → OutFaulted call (reply_to_call call) ⊎ ErrFaulted call (reply_to_call call) (unread_line_of call) (IsCommand call) memory_line
  pub no_memory : result ≡ OutOfMemory → MemoryLacked call (IsCommand call) memory_line
  -- with the statuses 2 to 6 and 8 to 12 nothing is written to out, and with 0 and 1 nothing to err
  pub silent_out : IsReported result → IsUnchanged call.out
  pub silent_err : IsPrinted result → IsUnchanged call.err

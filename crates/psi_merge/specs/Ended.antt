-- How the work of a call ends, before anything is written.
use Rattle.std.specs.Prelude.{◌≡◌, ℕ, List, [], map, Option, Result, Ok, Err, IfSome, IfOk, IfErr, true, false}
use Rattle.psi_program.specs.Seen.{ShelfSeen, IsUnread, HasAsked}
use Rattle.psi_program.specs.Reply.{line_reply}
use Rattle.psi_program.specs.Ending.{Ending as AnyEnding, replied, unread, no_memory, Faults, ending_reply as ended_reply, MayReply, IsCaused as IsCausedBy}
use Rattle.psi_report.specs.Contents.{Contents}
use Rattle.psi_merge.specs.declared.status.Status.{Status}
use Rattle.psi_merge.specs.declared.status.Status.TheVariants as status
use Rattle.psi_merge.specs.declared.ending.Ending.{Ending}
use Rattle.psi_merge.specs.declared.ending.Ending.TheVariants.{Merged, Usage, Refused, OtherNetwork, TooLarge, Unread, OutOfMemory}
use Rattle.psi_merge.specs.Status.{IsReplied, IsReported}
use Rattle.psi_merge.specs.Reply.{Reply, text_reply, usage_line, memory_line, unread_line, whole_of, are_files, reply_to}
use Rattle.psi_merge.specs.Seen.{read_of, HasAskedTo, HasUnread, AreAsked}

-- how the work of a call ends
abbrev pub Ended : Type 0
Ended = AnyEnding Status (List ℕ)

-- how the program tells of faults; a file that couldn't be read comes with its line
abbrev pub faults : Faults Status (List ℕ)
faults = record {
  read_fault = status.ReadFault;
  write_fault = status.WriteFault;
  out_of_memory = status.OutOfMemory;
  unread_line = λ line. line;
  memory_line = memory_line;
}

-- the ending that the program's own is
abbrev pub ending_of : Ending → Ended
ending_of (Merged text) = replied (text_reply text.items)
ending_of Usage = replied (line_reply status.Usage usage_line)
ending_of (Refused line) = replied (line_reply status.Refused line.items)
ending_of (OtherNetwork line) = replied (line_reply status.OtherNetwork line.items)
ending_of (TooLarge line) = replied (line_reply status.TooLarge line.items)
ending_of (Unread line) = unread line.items
ending_of OutOfMemory = no_memory

-- the reply that it is
abbrev pub ending_reply : Ending → Reply
ending_reply ending = ended_reply faults (ending_of ending)

-- the work on files ends without a report: with this reply, unless a file couldn't be read or an allocation failed
abbrev pub MayEnd : Ending → Result Contents Reply → Type 0
MayEnd (Merged text) whole = ⊥
MayEnd Usage whole = ⊥
MayEnd (Unread line) whole = Unit {0}
MayEnd OutOfMemory whole = Unit {0}
MayEnd ending whole = whole ≡ Err (ending_reply ending)

-- a file gives no report: a read of it failed, or the ending tells why
abbrev pub IsMissed : ShelfSeen → List ℕ → Ending → Type 0
IsMissed shelf name (Merged text) = ⊥
IsMissed shelf name Usage = ⊥
IsMissed shelf name (Unread line) = IsUnread shelf name × (line.items ≡ unread_line name)
IsMissed shelf name ending = Unit {0}

-- files give no report together: the last that was read gives none
pub record AreMissed (shelf : ShelfSeen) (found : List (List ℕ) → Option (Result Contents Reply)) (names : List (List ℕ)) (ending : Ending) : Type 0 where
  pub last : HasAskedTo shelf found names
  pub cause : IsMissed shelf last.name ending

-- all files were read, each of which but the last has a report with those before it
pub record AreRead (shelf : ShelfSeen) (words : List (List ℕ)) : Type 0 where
  pub last : HasAskedTo shelf (whole_of shelf.told) words
  pub all : last.next.behind ≡ []

-- a reply that the words can have, whatever files hold: one text, and the usage where they aren't files
pub record IsReplyTo (words : List (List ℕ)) (reply : Reply) : Type 0 where
  pub replied : IsReplied reply.status
  pub usage : reply.status ≡ status.Usage → are_files words ≡ false
  pub no_files : are_files words ≡ false → reply.status ≡ status.Usage
  pub reported : IsReported reply.status → reply.out ≡ []
  pub printed : reply.status ≡ status.Done → reply.err ≡ []

-- the cause of an ending: a reply is one that the words can have, a file is unread, or an allocation failed in the work on files
abbrev pub IsCaused : ShelfSeen → List (List ℕ) → Ended → Type 0
IsCaused shelf words = IsCausedBy (IsReplyTo words) (λ line. (cause : HasUnread shelf words) × (line ≡ unread_line cause.last.name)) (are_files words ≡ true)

-- the line of a failed read, or an allocation failed
abbrev pub IsUnreadOf : List ℕ → Ending → Type 0
IsUnreadOf name (Unread line) = line.items ≡ unread_line name
IsUnreadOf name OutOfMemory = Unit {0}
IsUnreadOf name ending = ⊥

-- no read failed
abbrev pub IsTold : Ending → Type 0
IsTold (Merged text) = ⊥
IsTold Usage = ⊥
IsTold (Unread line) = ⊥
IsTold ending = Unit {0}

-- the answer of the work on files: the report, or the ending where there is none
abbrev pub MayBe : Result Contents Ending → Result Contents Reply → Type 0
MayBe (Ok c) whole = whole ≡ Ok c
MayBe (Err ending) whole = MayEnd ending whole

-- what is found of a file: the answer where the shelf's model has it, and a read of it failed where it couldn't be read
pub record IsFound (shelf : ShelfSeen) (name : List ℕ) (found : Option (Result Contents Reply)) (result : Result Contents Ending) : Type 0 where
  pub answer : IfSome found (MayBe result)
  pub cause : IfErr result (IsMissed shelf name)

-- what is found of files together
pub record AreFound (shelf : ShelfSeen) (found : List (List ℕ) → Option (Result Contents Reply)) (names : List (List ℕ)) (result : Result Contents Ending) : Type 0 where
  pub answer : IfSome (found names) (MayBe result)
  pub asked : IfOk result (λ c. HasAsked shelf (map read_of names))
  pub cause : IfErr result (AreMissed shelf found names)

-- the work for the words ended so: with their reply where the files that are needed are told, by its cause, and with the reads that it tells
pub record IsEnding (shelf : ShelfSeen) (words : List (List ℕ)) (ending : Ended) : Type 0 where
  pub reply : IfSome (reply_to shelf.told words) (MayReply ending)
  pub cause : IsCaused shelf words ending
  pub asked : AreAsked shelf words (ended_reply faults ending).status

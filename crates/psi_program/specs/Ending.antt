-- How the work of a call ends, before anything is written.
use Rattle.std.specs.Prelude.{◌≡◌, ℕ, List}
use Rattle.psi_program.specs.Reply.{Reply, line_reply}

-- how the work ends
pub data Ending (Status File : Type 0) : Type 0 where
  -- with a reply
  replied : Reply Status → Ending Status File
  -- a file couldn't be read
  unread : File → Ending Status File
  -- an allocation failed
  no_memory : Ending Status File

-- how a program tells of faults: the statuses on a failed read, on a failed write and where memory ran out, and the lines on the first and the last
pub record Faults (Status File : Type 0) : Type 0 where
  pub read_fault : Status
  pub write_fault : Status
  pub out_of_memory : Status
  pub unread_line : File → List ℕ
  pub memory_line : List ℕ

-- the status and the texts with which the call ends, once they are written
abbrev pub ending_reply : {Status File : Type 0} → Faults Status File → Ending Status File → Reply Status
ending_reply faults (replied reply) = reply
ending_reply faults (unread file) = line_reply faults.read_fault (faults.unread_line file)
ending_reply faults no_memory = line_reply faults.out_of_memory faults.memory_line

-- the work ends with this reply, unless a file couldn't be read or an allocation failed
abbrev pub MayReply : {Status File : Type 0} → Ending Status File → Reply Status → Type 0
MayReply (replied given) reply = given ≡ reply
MayReply ending reply = Unit {0}

-- the cause of each ending: a reply is such a one, a file is unread so, or an allocation failed in work that is asked for
abbrev pub IsCaused : {Status File : Type 0} → (Reply Status → Type 0) → (File → Type 0) → Type 0 → Ending Status File → Type 0
IsCaused IsReply IsUnread IsAsked (replied reply) = IsReply reply
IsCaused IsReply IsUnread IsAsked (unread file) = IsUnread file
IsCaused IsReply IsUnread IsAsked no_memory = IsAsked

-- no read failed that the work needed
abbrev pub HasRead : {Status File : Type 0} → Ending Status File → Type 0
HasRead (unread file) = ⊥
HasRead ending = Unit {0}

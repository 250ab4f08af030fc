-- How the work for the words ends, from what is seen of the shelf.
use Rattle.std.specs.Prelude.{◌≡◌, ℕ, List, Option, Result, IsOk, IfOk, IfSome}
use Rattle.psi_io.specs.Sink.{appended}
use Rattle.psi_command.specs.Command.{Command}
use Rattle.psi_run.specs.Reply.{reply_to, IsReplyTo}
use Rattle.psi_program.specs.Seen.{ShelfSeen, ShelfCall, seen_with, AgreesWith}
use Rattle.psi_run.specs.Reads.{IsMissed, AreAsked, AreGiven}
use Rattle.psi_run.specs.Means.{Means}
use Rattle.psi_program.specs.Ending.{replied, MayReply, IsCaused as IsCausedBy, HasRead}
use Rattle.psi_reply.specs.Ending.{Ending, ending_reply}

-- the cause of each ending: a reply is one that the words can have, a file is missed, or an allocation failed in the work for a command
abbrev pub IsCaused : ShelfSeen → Result Command ℕ → Ending → Type 0
IsCaused shelf command = IsCausedBy (IsReplyTo command) (IsMissed shelf command) (IsOk command)

-- once the reply's text is in out, it means what the command says
abbrev pub IsMeant : (List ℕ → Option (List ℕ)) → Ending → Command → Type 0
IsMeant told (replied reply) command =
    (before after : Option (List ℕ)) → after ≡ appended before reply.out → Means command told before after reply.status
IsMeant told ending command = Unit {0}

-- the work for the words ended so: with the reply where the files needed are told, by its cause, and with what the command means
pub record IsEnding (shelf : ShelfSeen) (command : Result Command ℕ) (ending : Ending) : Type 0 where
  pub reply : IfSome (reply_to command shelf.told) (MayReply ending)
  pub cause : IsCaused shelf command ending
  pub means : IfOk command (IsMeant shelf.told ending)

-- whatever the files hold that agrees with the answers of the shelf, the work for the words ended so, with the reads that it needs
abbrev pub IsEndingOf : ShelfCall → Result Command ℕ → Ending → Type 0
IsEndingOf call command ending = (told : List ℕ → Option (List ℕ)) → AgreesWith told call
    → IsEnding (seen_with call told) command ending × AreAsked (seen_with call told) command (ending_reply ending).status

-- and where the shelf gives each file that is named, no read failed
pub record EndsAnyhow (call : ShelfCall) (gives : List ℕ → Type 0) (command : Result Command ℕ) (ending : Ending) : Type 0 where
  pub any : IsEndingOf call command ending
  pub read : AreGiven gives command → HasRead ending

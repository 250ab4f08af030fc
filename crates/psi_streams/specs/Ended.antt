-- How the work for the words ends, from what is seen of the shelf.
use Rattle.std.specs.Prelude.{◌≡◌, ℕ, List, Option, Result, IsOk, IfOk, IfSome}
use Rattle.psi_io.specs.Sink.{appended}
use Rattle.psi_program.specs.Seen.{ShelfSeen, ShelfCall, seen_with, AgreesWith}
use Rattle.psi_program.specs.Ending.{replied, MayReply, IsCaused as IsCausedBy, HasRead}
use Rattle.psi_reply.specs.Ending.{Ending}
use Rattle.psi_streams.specs.Asked.{Asked}
use Rattle.psi_streams.specs.Reply.{reply_to, IsReplyTo}
use Rattle.psi_streams.specs.Means.{Means}
use Rattle.psi_streams.specs.Seen.{AreAsked, IsMissed, IsGiven}

-- the cause of each ending: a reply is one that the words can have, the file is missed, or memory ran out in the work for a table
abbrev pub IsCaused : (name : List ℕ) → ShelfSeen → Result Asked ℕ → Ending → Type 0
IsCaused name shelf words = IsCausedBy (IsReplyTo name words) (IsMissed shelf words) (IsOk words)

-- once the reply's text is in out, it means what the table says
abbrev pub IsMeant : (List ℕ → Option (List ℕ)) → Ending → Asked → Type 0
IsMeant told (replied reply) asked = (before after : Option (List ℕ)) → after ≡ appended before reply.out → Means asked told before after reply.status
IsMeant told ending asked = Unit {0}

-- the work for the words ended so: with the reply where the network file is told, by its cause, with what the table means, and with the
-- read that it needs
pub record IsEnding (name : List ℕ) (shelf : ShelfSeen) (words : Result Asked ℕ) (ending : Ending) : Type 0 where
  pub reply : IfSome (reply_to name words shelf.told) (MayReply ending)
  pub cause : IsCaused name shelf words ending
  pub means : IfOk words (IsMeant shelf.told ending)
  pub reads : AreAsked shelf words

-- the same whatever the files hold that agrees with the answers of the shelf; and where it gives the network file, no read failed
pub record IsEndingOf (name : List ℕ) (call : ShelfCall) (gives : List ℕ → Type 0) (words : Result Asked ℕ) (ending : Ending) : Type 0 where
  pub any : (told : List ℕ → Option (List ℕ)) → AgreesWith told call → IsEnding name (seen_with call told) words ending
  pub read : IsGiven gives words → HasRead ending

-- How a reply is written.
use Rattle.std.specs.Prelude.{◌≡◌, ℕ, ◌≤◌, List, length, ◌⊎◌}
use Rattle.psi_program.specs.declared.writing.Text.{Text}
use Rattle.psi_program.specs.declared.writing.Text.TheVariants.{Printed, Reported}
use Rattle.psi_program.specs.Seen.{SinkSeen, Grew, GrewByPart, IsUnchanged, HasFailed}
use Rattle.psi_program.specs.Reply.{Reply, text_reply, line_reply}

-- a status with one text
abbrev pub reply_with : {Status : Type 0} → Status → Text → Reply Status
reply_with status (Printed text) = text_reply status text.now
reply_with status (Reported line) = line_reply status line.now

-- each sink grew by its text
pub record IsWhole {Status : Type 0} (reply : Reply Status) (out err : SinkSeen) : Type 0 where
  pub printed : Grew out reply.out
  pub reported : Grew err reply.err

-- a sink failed within its text, and nothing was written to the other
pub record IsCut (text : List ℕ) (failed other : SinkSeen) : Type 0 where
  pub cause : HasFailed failed
  pub part : GrewByPart failed text
  pub rest : IsUnchanged other

-- one of the sinks failed
abbrev pub IsCutReply : {Status : Type 0} → Reply Status → SinkSeen → SinkSeen → Type 0
IsCutReply reply out err = IsCut reply.out out err ⊎ IsCut reply.err err out

-- a reply was written whole and the status is its own, or a sink failed within its text and the status is that of a fault
abbrev pub IsWrittenAs : {Status : Type 0} → Reply Status → (fault : Status) → SinkSeen → SinkSeen → Status → Type 0
IsWrittenAs reply fault out err result = ((result ≡ reply.status) × IsWhole reply out err) ⊎ ((result ≡ fault) × IsCutReply reply out err)

-- the sink takes the text: it says so of a number of bytes that is at least the text's length
pub record IsTaken (takes : ℕ → Type 0) (text : List ℕ) : Type 0 where
  pub room : ℕ
  pub taken : takes room
  pub fits : length text ≤ room

-- where each sink takes its text, the status is the reply's, and no count rose
abbrev pub IsSpared : {Status : Type 0} → (out_takes err_takes : ℕ → Type 0) → Reply Status → SinkSeen → SinkSeen → Status → Type 0
IsSpared out_takes err_takes reply out err result = IsTaken out_takes reply.out → IsTaken err_takes reply.err
    → (result ≡ reply.status) × (out.faults_after ≡ out.faults_before) × (err.faults_after ≡ err.faults_before)

-- What the program prints of samples of a network in a file, read back, judged and merged.
use Rattle.std.specs.Prelude.{◌≡◌, ℕ, ◌+◌, ◌^◌, ◌<◌, ◌≤◌, List, ◌++◌, length, Option, Some, None, Ok}
use Rattle.psi_state.specs.declared.Outcome.{Outcome}
use Rattle.psi_net_model.specs.Network.{Network}
use Rattle.psi_net.specs.Reading.{network_of}
use Rattle.psi_command.specs.declared.status.Status.{Status}
use Rattle.psi_command.specs.declared.status.Status.TheVariants.{Done}
use Rattle.psi_command.specs.Command.{report}
use Rattle.psi_program.specs.Reply.{text_reply}
use Rattle.psi_reply.specs.Report.{AreDrawn}
use Rattle.psi_report.specs.Contents.{Contents}
use Rattle.psi_report.specs.Text.{text_of}
use Rattle.psi_report.specs.Report.{contents_of}
use Rattle.psi_report_reader.specs.Reading.{read}
use Rattle.psi_report_reader.specs.Sound.{flaw_of}
use Rattle.psi_report_reader.specs.Merging.{merged}
use Rattle.psi_run.specs.Means.{Means}
use Rattle.psi_run.specs.Reply.{reply_to}

-- a text of at most 32,768 bytes is read as a report in which no line is wrong
pub record IsReadAs (text : List ℕ) (c : Contents) : Type 0 where
  pub reading : read text ≡ Ok c
  pub right : flaw_of c ≡ None
  pub short : length text ≤ 32768

-- out grew by a text that is read as what so many samples of the network tell, each that of coupling from the past under the words of the seed and
-- its stream
pub record GrewByReport (before after : List ℕ) (net : Network) (seed first count : ℕ) : Type 0 where
  pub outcomes : List Outcome
  pub number : length outcomes ≡ count
  pub drawn : AreDrawn net seed first outcomes
  pub text : List ℕ
  pub grew : after ≡ before ++ text
  pub report : IsReadAs text (contents_of net outcomes)

-- so it is where the words of a call are a report of a network's file, and its status is a reply's
abbrev pub PrintedReportsAreRead : Type 0
PrintedReportsAreRead = (told : List ℕ → Option (List ℕ)) (name bytes : List ℕ) (net : Network) (seed first count : ℕ) (before after : List ℕ) (result : Status)
    → Means (report name seed first count) told (Some before) (Some after) result → told name ≡ Some bytes → network_of bytes ≡ Ok net → count < 2 ^ 64
    → GrewByReport before after net seed first count

-- the text is the reply to a report of the samples that a seed and so many streams, from the first on, draw of the network in a file
abbrev pub IsPrinted : (List ℕ → Option (List ℕ)) → (name : List ℕ) → (seed first count : ℕ) → List ℕ → Type 0
IsPrinted told name seed first count text = reply_to (Ok (report name seed first count)) told ≡ Some (text_reply Done text)

-- two texts are reports that are merged into the report of a third text
pub record AreMergedInto (front back whole : List ℕ) : Type 0 where
  pub one : Contents
  pub other : Contents
  pub both : Contents
  pub one_is : IsReadAs front one
  pub other_is : IsReadAs back other
  pub merging : merged one other ≡ Ok both
  pub text : text_of both ≡ whole

-- what is printed of streams, and of those after them, is merged into what is printed of all of them
abbrev pub PrintedReportsAreMerged : Type 0
PrintedReportsAreMerged = (told : List ℕ → Option (List ℕ)) (name : List ℕ) (seed first m n : ℕ) (front back whole : List ℕ) → m + n < 2 ^ 64
    → IsPrinted told name seed first m front → IsPrinted told name seed (first + m) n back → IsPrinted told name seed first (m + n) whole
    → AreMergedInto front back whole

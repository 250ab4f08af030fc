-- The report that a file has.
use Rattle.std.specs.Prelude.{ℕ, List, length, ◌==◌, nat_le, Option, Some, None, Result, Ok, Err, if◌then◌else◌}
use Rattle.psi_report.specs.Contents.{Contents}
use Rattle.psi_report_reader.specs.Reading.{read}
use Rattle.psi_report_reader.specs.Sound.{flaw_of}
use Rattle.psi_merge.specs.declared.reports.ReportCause.{ReportCause}
use Rattle.psi_merge.specs.declared.reports.ReportCause.TheVariants.{TooLong, Row, Text, Samples}

-- why a file is no report: the line, 0 for the text as a whole, and the cause
pub record Refusal : Type 0 where
  pub line : ℕ
  pub cause : ReportCause

-- no row of a report stands on the line, or the text as a whole isn't that of its rows
abbrev pub unread_at : ℕ → Refusal
unread_at line = record { line = line; cause = if line == 0 then Text else Row }

-- a report without a flaw
abbrev pub sound : Contents → Option ℕ → Result Contents Refusal
sound c (Some line) = Err (record { line = line; cause = Samples })
sound c None = Ok c

-- a report that was read
abbrev pub judged : Result Contents ℕ → Result Contents Refusal
judged (Ok c) = sound c (flaw_of c)
judged (Err line) = Err (unread_at line)

-- the report that bytes are, at most 1,048,576 of them
unfoldable pub report_in : List ℕ → Result Contents Refusal
report_in bytes = if nat_le (length bytes) 1048576 then judged (read bytes) else Err (record { line = 0; cause = TooLong })

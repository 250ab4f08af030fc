-- What the program answers: a status with a text for out and a text for err.
use Rattle.std.specs.Prelude.{ℕ, List, [], ◌∷◌, ◌++◌, codes, Bool, true, false, ◌==◌, not, Option, Some, None, option_and_then, Result, Ok, Err, if◌then◌else◌}
use Rattle.std.specs.List.{list_all}
use Rattle.std.specs.Fmt.{decimal}
use Rattle.psi_program.specs.Reply.{Reply as AnyReply, text_reply as printed, line_reply}
use Rattle.psi_report.specs.Contents.{Contents}
use Rattle.psi_report.specs.Text.{text_of}
use Rattle.psi_report_reader.specs.Merging.{merged}
use Rattle.psi_report_reader.specs.declared.error.MergeError.{MergeError}
use Rattle.psi_report_reader.specs.declared.error.MergeError.TheVariants as merge
use Rattle.psi_merge.specs.declared.status.Status.{Status}
use Rattle.psi_merge.specs.declared.status.Status.TheVariants.{Done, Usage, Refused, OtherNetwork, TooLarge}
use Rattle.psi_merge.specs.declared.reports.ReportCause.{ReportCause}
use Rattle.psi_merge.specs.declared.reports.ReportCause.TheVariants.{TooLong, Row, Text, Samples}
use Rattle.psi_merge.specs.Reports.{Refusal, report_in}

-- ---- the lines of err

-- the words that are wanted
abbrev pub usage_line : List ℕ
usage_line = codes "psi_merge: usage: psi_merge FILE..\n"

-- there is no memory
abbrev pub memory_line : List ℕ
memory_line = codes "psi_merge: out of memory\n"

-- the number and the name of a cause
abbrev pub cause_text : ReportCause → List ℕ
cause_text TooLong = codes "0 TooLong"
cause_text Row = codes "1 Row"
cause_text Text = codes "2 Text"
cause_text Samples = codes "3 Samples"

-- a file is no report: why, at which line, and its name
unfoldable pub refused_line : List ℕ → Refusal → List ℕ
refused_line name refusal =
    codes "psi_merge: refused " ++ cause_text refusal.cause ++ codes " line " ++ decimal refusal.line ++ codes " " ++ name ++ codes "\n"

-- a report is of another network than the first: at which line, and its name
unfoldable pub other_line : List ℕ → ℕ → List ℕ
other_line name line = codes "psi_merge: other network line " ++ decimal line ++ codes " " ++ name ++ codes "\n"

-- with this report a number would be greater than a report may tell: at which line, and its name
unfoldable pub large_line : List ℕ → ℕ → List ℕ
large_line name line = codes "psi_merge: too large line " ++ decimal line ++ codes " " ++ name ++ codes "\n"

-- a file can't be read
unfoldable pub unread_line : List ℕ → List ℕ
unread_line name = codes "psi_merge: cannot read " ++ name ++ codes "\n"

-- ---- replies

-- how a call ends: its status, with a text for out and a text for err
abbrev pub Reply : Type 0
Reply = AnyReply Status

-- a text for out
abbrev pub text_reply : List ℕ → Reply
text_reply text = printed Done text

-- ---- the report of all files

-- the report of a file, or the line on why it has none
abbrev pub report_reply : List ℕ → Result Contents Refusal → Result Contents Reply
report_reply name (Ok c) = Ok c
report_reply name (Err refusal) = Err (line_reply Refused (refused_line name refusal))

-- the report of a file, where the shelf's model has it
abbrev pub report_at : (List ℕ → Option (List ℕ)) → List ℕ → Option (Result Contents Reply)
report_at told name = option_and_then (λ bytes. Some (report_reply name (report_in bytes))) (told name)

-- the report of those before it and of a file, or the line on why there is none
abbrev pub merge_reply : List ℕ → Result Contents MergeError → Option (Result Contents Reply)
merge_reply name (Ok c) = Some (Ok c)
merge_reply name (Err (merge.OtherNetwork line)) = Some (Err (line_reply OtherNetwork (other_line name line)))
merge_reply name (Err (merge.TooLarge line)) = Some (Err (line_reply TooLarge (large_line name line)))
merge_reply name (Err merge.OutOfMemory) = None

-- go on with the report that there is
abbrev pub go_on : (Contents → Option (Result Contents Reply)) → Option (Result Contents Reply) → Option (Result Contents Reply)
go_on next None = None
go_on next (Some (Err reply)) = Some (Err reply)
go_on next (Some (Ok c)) = next c

-- one file more
abbrev pub with_file : (List ℕ → Option (List ℕ)) → Contents → List ℕ → Option (Result Contents Reply)
with_file told c name = go_on (λ d. merge_reply name (merged c d)) (report_at told name)

-- the files one after another
unfoldable pub with_files : (List ℕ → Option (List ℕ)) → Contents → List (List ℕ) → Option (Result Contents Reply)
with_files told c [] = Some (Ok c)
with_files told c (name ∷ names) = go_on (λ d. with_files told d names) (with_file told c name)

-- the report of all files, of which there is one at least
abbrev pub whole_of : (List ℕ → Option (List ℕ)) → List (List ℕ) → Option (Result Contents Reply)
whole_of told [] = None
whole_of told (name ∷ names) = go_on (λ c. with_files told c names) (report_at told name)

-- a word is a file's name, unless it begins with a minus sign
abbrev pub is_file : List ℕ → Bool
is_file [] = true
is_file (byte ∷ bytes) = not (byte == 45)

-- the words are the names of files, one at least
unfoldable pub are_files : List (List ℕ) → Bool
are_files [] = false
are_files (word ∷ words) = list_all is_file (word ∷ words)

-- the text of the report of all, or the line on why there is none
abbrev pub whole_reply : Result Contents Reply → Reply
whole_reply (Ok c) = text_reply (text_of c)
whole_reply (Err reply) = reply

-- the reply to words, where the shelf's model has the files that are read
unfoldable pub reply_to : (List ℕ → Option (List ℕ)) → List (List ℕ) → Option Reply
reply_to told words = if are_files words then option_and_then (λ whole. Some (whole_reply whole)) (whole_of told words) else Some (line_reply Usage usage_line)

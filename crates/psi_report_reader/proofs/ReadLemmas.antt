-- A text that is read is that of the report, and the text of each report is read as this report.
use Rattle.std.specs.Prelude.{◌≡◌, ℕ, List, Result, Ok, Err, refl}
use Rattle.std.specs.List.{slice_split}
use Rattle.std.proofs.Common.{arith}
use Rattle.std.proofs.lemmas.Slice.Eq.{bytes_eq-Decides}
use Rattle.psi_report.specs.Text.{text_of}
use Rattle.psi_report.specs.Contents.{Contents}
use Rattle.psi_report_reader.specs.Reading.{blank, is_feed, read_lines, matching, read, ReadIsText, TextIsRead}
use Rattle.psi_report_reader.proofs.RowReadsLemmas.{lines-read}

matching-text : (text : List ℕ) (reading : Result Contents ℕ) (c : Contents) → matching text reading ≡ Ok c → text_of c ≡ text
matching-text text (Err n) c is = absurd cc
matching-text text (Ok d) c is = grind (arith, (bytes_eq-Decides (text_of d) text).0)

pub read_is_text : ReadIsText
unfolding read
read_is_text text c is = matching-text text (read_lines 1 blank (slice_split is_feed text)) c is

pub text_is_read : TextIsRead
unfolding read
text_is_read c is = rw (lines-read c is, (bytes_eq-Decides (text_of c) (text_of c)).1 refl) refl

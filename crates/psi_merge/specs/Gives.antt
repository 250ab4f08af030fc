-- An answer on a file, as the report's or its refusal.
use Rattle.std.specs.Prelude.{◌≡◌, Result, Ok, Err}
use Rattle.psi_report.specs.Contents.{Contents}
use Rattle.psi_merge.specs.declared.reports.ReportError.{ReportError}
use Rattle.psi_merge.specs.declared.reports.ReportError.TheVariants.{Refused, OutOfMemory}
use Rattle.psi_merge.specs.Reports.{Refusal}

-- a refusal, as an error
abbrev pub refused : Refusal → ReportError
refused refusal = Refused refusal.line refusal.cause

-- the answer is the reading's, unless an allocation fails
abbrev pub Gives : Result Contents ReportError → Result Contents Refusal → Type 0
Gives (Ok c) reading = reading ≡ Ok c
Gives (Err (Refused line cause)) reading = reading ≡ Err (record { line = line; cause = cause })
Gives (Err OutOfMemory) reading = Unit {0}

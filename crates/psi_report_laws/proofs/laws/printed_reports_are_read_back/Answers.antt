-- The laws in the proof of `printed_reports_are_read_back`.
use Rattle.psi_report_laws.proofs.PrintedLemmas.{printed-read, printed-merged}
use Rattle.psi_report_laws.proofs.laws.printed_reports_are_read_back.Goals as goal

pub returns : goal.returns
returns c = record { read = printed-read; merged = printed-merged }

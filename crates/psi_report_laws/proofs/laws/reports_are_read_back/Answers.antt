-- The laws in the proof of `reports_are_read_back`.
use Rattle.psi_report_laws.proofs.DescribedLemmas.{reports-read, reports-merged}
use Rattle.psi_report_laws.proofs.laws.reports_are_read_back.Goals as goal

pub returns : goal.returns
returns c = record { read = reports-read; merged = reports-merged }

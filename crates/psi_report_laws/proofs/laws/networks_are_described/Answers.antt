-- The laws in the proof of `networks_are_described`.
use Rattle.psi_report_laws.proofs.DescribedLemmas.{networks-described}
use Rattle.psi_report_laws.proofs.GeneratedLemmas.{generated-described}
use Rattle.psi_report_laws.proofs.laws.networks_are_described.Goals as goal

pub returns : goal.returns
returns c = record { read = networks-described; generated = generated-described }

-- The laws in the proof of `printed_samples_are_counted`.
use Rattle.psi_law_printed.proofs.PrintedLemmas.{samples-counted, reports-counted, closed-samples-counted}
use Rattle.psi_law_printed.proofs.laws.printed_samples_are_counted.Goals as goal

pub returns : goal.returns
returns c = record { samples = samples-counted; reports = reports-counted; closed = closed-samples-counted }

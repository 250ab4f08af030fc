-- The law in the proof of `laws::logs_are_accepted`.
use Rattle.psi_log_writer.proofs.AcceptedLemmas.{logs-accepted}
use Rattle.psi_log_writer.proofs.laws.logs_are_accepted.Goals as goal

pub returns : goal.returns
returns c = logs-accepted

-- Answers in the proof of `run_program`.
use Rattle.psi_program.proofs.StartingLemmas.{ended, none_counted}
use Rattle.psi_program.proofs.starting.run_program.Goals as goal

pub returns : goal.returns
returns g c = ended _ _ _ _ (none_counted _ _ _ _ c.new-shelf.ensures.asked c.new-shelf.ensures.count c.new-out.ensures.count c.new-err.ensures.count) c.start.ensures

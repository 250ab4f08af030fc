-- Answers in the proof of `start`.
use Rattle.std.proofs.Common.{sym, subst}
use Rattle.psi_program.specs.Run.{HasRun, ran}
use Rattle.psi_program.proofs.starting.start.Goals as goal

pub returns : goal.returns
returns g c = ran _ (subst (HasRun _ _ _ _) (sym c.from-2.ensures) c.run-status.ensures.run)

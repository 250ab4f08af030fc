-- Answers in the proof of `Wheel::idle`.
use Rattle.psi_rate.proofs.DealtLemmas.{dial-below, dial-idle}
use Rattle.psi_rate.proofs.wheel.Wheel.idle.Goals as goal

pub overflow_sub-result : goal.overflow_sub-result
overflow_sub-result c = dial-below c.self.invariant.0

pub returns : goal.returns
returns c = rw c.self.view_is at (dial-idle c.self.invariant.0)

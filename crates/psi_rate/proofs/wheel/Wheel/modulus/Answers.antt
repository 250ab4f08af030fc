-- Answers in the proof of `Wheel::modulus`.
use Rattle.psi_rate.proofs.DealtLemmas.{dial-least}
use Rattle.psi_rate.proofs.wheel.Wheel.modulus.Goals as goal

pub returns-clause-least : goal.returns-clause-least
returns-clause-least c = rw c.self.view_is at (dial-least c.self.invariant.0)

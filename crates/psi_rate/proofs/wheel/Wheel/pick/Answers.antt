-- Answers in the proof of `Wheel::pick`.
use Rattle.psi_rate.proofs.DealtLemmas.{dial-number, dial-few, number-event}
use Rattle.psi_rate.proofs.wheel.Wheel.pick.Goals as goal

pub event-requires-clause-few : goal.event-requires-clause-few
event-requires-clause-few c = dial-few c.deref.result.now c.self.invariant.0 c.deref.ensures.value

pub returns-clause-number : goal.returns-clause-number
returns-clause-number c = rw c.self.view_is at (dial-number c.deref.result.now c.args.word c.event.result c.self.invariant.0 c.deref.ensures.value c.event.ensures)

pub returns-clause-event : goal.returns-clause-event
returns-clause-event c = number-event c.args.self.now c.args.word c.event.result (returns-clause-number c)

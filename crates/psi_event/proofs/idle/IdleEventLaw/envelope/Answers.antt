-- Answers in the proof of `IdleEventLaw::envelope`.
use Rattle.std.proofs.Common.{sym}
use Rattle.psi_event.proofs.LawLemmas.{monotone-tight, tight-corners}
use Rattle.psi_event.specs.Idle.{unchanged}
use Rattle.psi_event.proofs.idle.IdleEventLaw.envelope.Goals as goal

pub returns-clause-tight : goal.returns-clause-tight
returns-clause-tight c = monotone-tight c.args.self.now.caps unchanged c.args.b.now.lo c.args.b.now.hi (record { each = λ x y within below. below }) c.len-queues.ensures.ordered c.requires

pub returns-clause-hull : goal.returns-clause-hull
returns-clause-hull c = sym (tight-corners unchanged c.args.b.now.lo c.args.b.now.hi _ _ c.len-queues.ensures.ordered (returns-clause-tight c))

-- Answers in the proof of `GuardedEventLaw::envelope`.
use Rattle.std.proofs.Common.{◌∙◌}
use Rattle.psi_event.proofs.LawLemmas.{monotone-corners, tight-within}
use Rattle.psi_guard.specs.Guarding.{guarded}
use Rattle.psi_guard.specs.Inner.RuleLaws.{guarded-closed}
use Rattle.psi_guard.proofs.event.GuardedEventLaw.envelope.Goals as goal

pub returns-clause-within : goal.returns-clause-within
returns-clause-within c = tight-within c.args.self.now.caps (guarded c.args.self.now.parts) c.args.b.now.lo c.args.b.now.hi c.move_ends.new.b.lo c.move_ends.new.b.hi
    (guarded-closed c.args.self.now.caps c.args.self.now.parts c.args.self.now.guards) c.move_ends.ensures.ordered c.requires c.move_ends.ensures.tight

pub returns-clause-monotone : goal.returns-clause-monotone
returns-clause-monotone c mono = c.move_ends.ensures.hull ∙ monotone-corners c.args.self.now.caps (guarded c.args.self.now.parts) c.args.b.now.lo c.args.b.now.hi mono c.move_ends.ensures.ordered c.requires

-- Answers in the proof of `Course::caps`.
use Rattle.std.proofs.Common.{All, map, subst}
use Rattle.psi_event.specs.Law.{IsClosed}
use Rattle.psi_region.specs.Followed.{Network}
use Rattle.psi_region.proofs.FollowedLemmas.{events-closed}
use Rattle.psi_region.proofs.course.Course.caps.Goals as goal

pub returns-clause-closed : goal.returns-clause-closed
returns-clause-closed g c =
    subst (λ (n : Network g.row.E.Denot). All (λ f. IsClosed n.caps f) (map g.E.EventLaw.function n.events)) c.self.view_is
    (events-closed g.E.EventLaw.capacities g.E.EventLaw.function c.self.inside.caps c.self.inside.events.now g.met.E.EventLaw.closed c.self.invariant.same_caps)

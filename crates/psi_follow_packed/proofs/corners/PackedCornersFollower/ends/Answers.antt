-- Answers in the proof of `PackedCorners::ends`.
use Rattle.psi_region.proofs.FollowedLemmas.{corners-ordered, seen-ends}
use Rattle.psi_follow_packed.proofs.corners.PackedCornersFollower.ends.Goals as goal

pub new-requires : goal.new-requires
new-requires g c = corners-ordered _ _ _ _ c.moved_corners-least.ensures c.self.invariant.1

pub returns-clause-ends : goal.returns-clause-ends
returns-clause-ends g c = seen-ends g.E.EventLaw.function c.self.inside.course c.args.self.now _ _ _ _ c.moved_corners-least.ensures c.self.invariant.1 c.new.ensures c.self.view_is

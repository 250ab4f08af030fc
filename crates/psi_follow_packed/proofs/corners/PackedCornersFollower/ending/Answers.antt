-- Answers in the proof of `PackedCorners::ending`.
use Rattle.psi_region.proofs.FollowedLemmas.{corners-ending}
use Rattle.psi_follow_packed.proofs.corners.PackedCornersFollower.ending.Goals as goal

pub returns-clause-ending : goal.returns-clause-ending
returns-clause-ending g c = rw (← c.self.view_is) (corners-ending _ _ _ _ _ c.moved_corners-least.ensures c.self.invariant.1 c.one_of.ensures)

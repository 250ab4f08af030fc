use Rattle.std.proofs.Common.{[], ◌∷◌, ◌∙◌}
use Rattle.psi_follow_sets.specs.Room.{held}
use Rattle.psi_follow_sets.proofs.FollowingLemmas.{set-same}
use Rattle.psi_follow_sets.proofs.lists.Lists.advance.Goals as goal

pub returns-then-is_due : goal.returns-then-is_due
returns-then-is_due g c = record {
  lists = c.thin.ensures.lists;
  follows = set-same g.row.K c.args.program.now (c.args.number ∷ []) (held c.args.self.now) (held c.step.new.self) (held c.thin.new.self) c.step.ensures.follows c.thin.ensures.members;
  room = c.thin.ensures.room ∙ c.step.ensures.room;
  some = c.thin.ensures.some;
}

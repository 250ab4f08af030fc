use Rattle.std.proofs.Common.{length, drop, refl, ◌∙◌, arith}
use Rattle.std.proofs.Math.Seq.{drop-length}
use Rattle.psi_follow_sets.specs.Room.{held}
use Rattle.psi_state.proofs.SameLemmas.{same-itself}
use Rattle.psi_follow_sets.proofs.FollowingLemmas.{set-none, set-more}
use Rattle.psi_follow_sets.proofs.lists.Lists.follow_apart.Goals as goal

pub loop-left-init : goal.loop-left-init
loop-left-init g c =
    let own = held c.args.self.now in
    let numbers = c.args.numbers.now in
    record {
      moved = record {
        lists = c.requires.lists;
        follows = set-none g.row.K c.args.program.now (drop (length numbers) numbers) own own (drop-length numbers) (same-itself own);
        room = refl;
        some = c.requires.some;
      };
      left = omega arith;
    }

pub loop-left-preserved : goal.loop-left-preserved
loop-left-preserved g c =
    let kept = c.loop-left.invariant in
    let before = kept.moved in
    let moved = c.advance.ensures in
    record {
      moved = record {
        lists = moved.lists;
        follows = set-more g.row.K c.args.program.now c.args.numbers.now c.loop-left.left (held c.args.self.now) (held c.loop-left.self) (held c.advance.new.self) (omega arith) kept.left
            before.follows moved.follows;
        room = moved.room ∙ before.room;
        some = moved.some;
      };
      left = omega (arith, kept.left);
    }

use Rattle.std.proofs.Common.{ℕ, List, false}
use Rattle.psi_event.specs.Law.{Function}
use Rattle.psi_follow_packed.specs.Programs.{Prepares}
use Rattle.psi_follow_packed.specs.Boxes.{AreCorners, AreFollowed, AreMonotoneUnhalted, GapsTell}
use Rattle.psi_follow_packed.specs.Views.{low_words, high_words}
use Rattle.psi_follow_packed.proofs.program.MaskProgram.follow_while_many.Given as goal

-- the corners are those of the box down to this place, and boxes of the gaps that were tested have many states
abbrev pub invariant-loop-place : goal.invariant-loop-place
invariant-loop-place g l = record {
  run : (caps : List ℕ) (functions : List Function) (lo hi : List ℕ) → Prepares g.row.K caps functions l.self → AreMonotoneUnhalted caps functions l.halts
      → AreCorners g.row.K l.self.packing (low_words l.initial.x) (high_words l.initial.x) lo hi
      → AreFollowed g.row.K l.self.packing functions l.numbers l.halts l.most lo hi (low_words l.own) (high_words l.own) l.place;
  tested : GapsTell g.row.K l.bits l.most l.tested.words false;
}

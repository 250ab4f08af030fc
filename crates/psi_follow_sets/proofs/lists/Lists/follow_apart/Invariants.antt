use Rattle.std.proofs.Common.{◌≤◌, length, drop}
use Rattle.psi_follow_sets.specs.Inner.HoldingKept.{AreMoved}
use Rattle.psi_follow_sets.proofs.lists.Lists.follow_apart.Given as goal

-- the words are those that the numbers after this place make of the words of before
abbrev pub invariant-loop-left : goal.invariant-loop-left
invariant-loop-left g l = record {
  moved : AreMoved l.program (drop l.left l.numbers) l.fn.self l.self;
  left : l.left ≤ length l.numbers;
}

abbrev pub decreases-loop-left : goal.decreases-loop-left
decreases-loop-left g l = l.left

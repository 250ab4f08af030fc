-- Invariants of the loops of `follow_until_few`.
use Rattle.std.proofs.Common.{◌≤◌, map, length}
use Rattle.psi_follow_packed.specs.Views.{low_words, high_words}
use Rattle.psi_follow_sets.specs.Sets.{IsPackedBox, RunsCorners}
use Rattle.psi_follow_sets.proofs.sets.follow_until_few.Given as goal

-- the numbers that are left make of the box what all numbers make of the first one
abbrev pub invariant-loop-left : goal.invariant-loop-left
invariant-loop-left g l = record {
  few : l.left ≤ length l.numbers;
  corners : IsPackedBox g.row.K l.machine.program.packing (low_words l.x) (high_words l.x);
  run : RunsCorners g.row.K l.machine.program.packing (map g.E.EventLaw.function l.course.events) l.numbers l.split (low_words l.fn.x) (high_words l.fn.x) (low_words l.x) (high_words l.x) l.left;
}

-- fewer numbers are left
abbrev pub decreases-loop-left : goal.decreases-loop-left
decreases-loop-left g l = l.left

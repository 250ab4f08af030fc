use Rattle.std.proofs.Common.{drop}
use Rattle.psi_follow_packed.specs.Views.{low_words, high_words}
use Rattle.psi_follow_packed.specs.Programs.{Follows}
use Rattle.psi_follow_packed.proofs.program.MaskProgram.follow_by.Given as goal

-- the words are those that the numbers after this place make of the words of before
abbrev pub invariant-loop-place : goal.invariant-loop-place
invariant-loop-place g l = record {
  low : Follows g.row.K l.self (drop l.place l.numbers) (low_words l.x) (low_words l.own);
  high : Follows g.row.K l.self (drop l.place l.numbers) (high_words l.x) (high_words l.own);
}

-- A step is walked for each word up to this one.
use Rattle.std.proofs.Common.{◌≡◌, ◌+◌, ◌-◌, map}
use Rattle.psi_follow_packed.specs.Views.{low_word, high_word, low_words, high_words}
use Rattle.psi_path_packed.specs.Counts.{StandsAt}
use Rattle.psi_path_packed.proofs.steps.Steps.follow.Given as goal

abbrev pub invariant-loop-word : goal.invariant-loop-word
invariant-loop-word g l = record {
  times : low_word l.change + l.word-index ≡ l.fn.self.left;
  one : high_word l.change ≡ 1;
  twice : high_words l.x ≡ low_words l.x;
  stands : StandsAt g.row.K g.course.packing g.course.path g.course.steps (l.fn.self.left - l.word-index) (low_words l.x) l.chosen (map high_word l.changes) (map low_word l.changes);
}

use Rattle.std.proofs.Common.{◌≡◌, ◌-◌, ◌^◌}
use Rattle.std.specs.Prelude.{if◌then◌else◌}
use Rattle.psi_follow_packed.specs.Views.{low_word, high_word, low_words, high_words}
use Rattle.psi_follow_packed.specs.Moves.{same_words}
use Rattle.psi_follow_packed.proofs.pairs.PackedPair.apart.Given as goal

-- the words before this place are the same or not
abbrev pub invariant-loop-at : goal.invariant-loop-at
invariant-loop-at g l = record {
  low : low_word l.apart ≡ (if same_words l.at (low_words l.self) (low_words l.other) then 0 else 2 ^ 64 - 1);
  high : high_word l.apart ≡ (if same_words l.at (high_words l.self) (high_words l.other) then 0 else 2 ^ 64 - 1);
}

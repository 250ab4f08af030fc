use Rattle.std.proofs.Common.{◌≡◌, nat_eq}
use Rattle.psi_follow_packed.specs.Views.{low_words, high_words, low_word, high_word, masks_by}
use Rattle.psi_follow_packed.specs.Moves.{holds}
use Rattle.psi_follow_packed.proofs.moves.PackedEvent.none_up.Given as goal

abbrev pub invariant-loop-at : goal.invariant-loop-at
invariant-loop-at g l = record {
  low : nat_eq (low_word l.up) 0 ≡ holds l.at (low_words l.self.offsets) (masks_by low_word l.self.first) (low_words l.x);
  high : nat_eq (high_word l.up) 0 ≡ holds l.at (high_words l.self.offsets) (masks_by high_word l.self.first) (high_words l.x);
}

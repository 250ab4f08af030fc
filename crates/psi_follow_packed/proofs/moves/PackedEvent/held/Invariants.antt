use Rattle.std.proofs.Common.{◌≡◌}
use Rattle.psi_follow_packed.specs.Views.{low_words, high_words, low_word, high_word, masks_by}
use Rattle.psi_follow_packed.specs.Moves.{holds}
use Rattle.psi_follow_packed.proofs.MovingLemmas.{ones}
use Rattle.psi_follow_packed.proofs.moves.PackedEvent.held.Given as goal

abbrev pub invariant-loop-at : goal.invariant-loop-at
invariant-loop-at g l = record {
  low : low_word l.held ≡ ones (holds l.at (low_words l.self.offsets) (masks_by low_word l.masks) (low_words l.x));
  high : high_word l.held ≡ ones (holds l.at (high_words l.self.offsets) (masks_by high_word l.masks) (high_words l.x));
}

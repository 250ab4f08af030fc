use Rattle.std.proofs.Common.{◌≡◌, ◌<◌, ◌≤◌, ℕ, length}
use Rattle.psi_follow_packed.specs.Views.{low_words, high_words, low_word, high_word, moving_by, pair_at}
use Rattle.psi_follow_packed.specs.Moves.{IsMoved}
use Rattle.psi_follow_packed.proofs.moves.PackedEvent.advance_all.Given as goal

abbrev pub invariant-loop-x : goal.invariant-loop-x
invariant-loop-x g l = record {
  count : length l.list ≡ length l.fn.list;
  low : (i : ℕ) → i < l.x-index → IsMoved g.row.K (moving_by low_word l.self) (low_words (pair_at l.fn.list i)) (low_words (pair_at l.list i));
  high : (i : ℕ) → i < l.x-index → IsMoved g.row.K (moving_by high_word l.self) (high_words (pair_at l.fn.list i)) (high_words (pair_at l.list i));
  waiting : (i : ℕ) → l.x-index ≤ i → pair_at l.list i ≡ pair_at l.fn.list i;
}

use Rattle.std.proofs.Common.{◌≡◌, ◌<◌, ℕ, slice_index}
use Rattle.psi_follow_packed.specs.Views.{low_words}
use Rattle.psi_follow_packed.proofs.moves.Masks.changes_nothing.Given as goal

abbrev pub invariant-loop-at : goal.invariant-loop-at
invariant-loop-at g l = (w : ℕ) → w < l.at → slice_index (low_words l.self.change) w ≡ 0

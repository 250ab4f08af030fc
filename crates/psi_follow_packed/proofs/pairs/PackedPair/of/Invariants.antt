use Rattle.std.proofs.Common.{◌≡◌, ◌<◌, ℕ, length, map, slice_index}
use Rattle.psi_follow_packed.specs.Views.{low_word, high_word}
use Rattle.psi_follow_packed.proofs.pairs.PackedPair.of.Given as goal

abbrev pub invariant-loop-at : goal.invariant-loop-at
invariant-loop-at g l = record {
  long : length l.pairs ≡ g.row.K;
  low : (w : ℕ) → w < l.at → slice_index (map low_word l.pairs) w ≡ slice_index l.low.words w;
  high : (w : ℕ) → w < l.at → slice_index (map high_word l.pairs) w ≡ slice_index l.high.words w;
}

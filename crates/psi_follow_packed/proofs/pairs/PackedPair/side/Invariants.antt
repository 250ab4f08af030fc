use Rattle.std.proofs.Common.{◌≡◌, ◌<◌, ℕ, length, slice_index}
use Rattle.psi_follow_packed.specs.Views.{words_by}
use Rattle.psi_follow_packed.proofs.pairs.PackedPair.side.Given as goal

abbrev pub invariant-loop-at : goal.invariant-loop-at
invariant-loop-at g l = record {
  long : length l.words ≡ g.row.K;
  each : (w : ℕ) → w < l.at → slice_index l.words w ≡ slice_index (words_by (λ p. slice_index p.lanes g.row.LANE) l.self) w;
}

use Rattle.std.proofs.Common.{◌≡◌, ◌<◌, ℕ, length, slice_index, bit_and}
use Rattle.psi_follow_packed.proofs.layout.Packed.and.Given as goal

abbrev pub invariant-loop-at : goal.invariant-loop-at
invariant-loop-at g l = record {
  long : length l.words ≡ g.row.K;
  each : (w : ℕ) → w < l.at → slice_index l.words w ≡ bit_and (slice_index l.self.words w) (slice_index l.other.words w);
}

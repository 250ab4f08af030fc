use Rattle.std.proofs.Common.{◌≡◌, ◌<◌, ◌+◌, ◌-◌, ◌%◌, ◌^◌, ℕ, length, slice_index}
use Rattle.psi_follow_packed.proofs.moves.difference.Given as goal

abbrev pub invariant-loop-at : goal.invariant-loop-at
invariant-loop-at g l = record {
  long : length l.words ≡ g.row.K;
  each : (w : ℕ) → w < l.at → slice_index l.words w ≡ (slice_index l.ups.words w + (2 ^ 64 - slice_index l.downs.words w)) % 2 ^ 64;
}

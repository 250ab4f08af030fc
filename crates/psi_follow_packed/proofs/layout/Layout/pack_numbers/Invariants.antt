use Rattle.std.proofs.Common.{◌≡◌, ◌<◌, ℕ, length, slice_index}
use Rattle.psi_follow_packed.specs.Packed.{packed}
use Rattle.psi_follow_packed.proofs.layout.Layout.pack_numbers.Given as goal

abbrev pub invariant-loop-at : goal.invariant-loop-at
invariant-loop-at g l = record {
  long : length l.words ≡ g.row.K;
  each : (w : ℕ) → w < l.at → slice_index l.words w ≡ slice_index (packed g.row.K l.self l.x) w;
}

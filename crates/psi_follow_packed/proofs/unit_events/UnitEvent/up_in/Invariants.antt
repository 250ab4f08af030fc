use Rattle.std.proofs.Common.{◌≡◌, ◌<◌, ◌+◌, ◌/◌, ◌%◌, ◌^◌, ℕ, length, slice_index, bit_and}
use Rattle.psi_follow_packed.proofs.unit_events.UnitEvent.up_in.Given as goal

abbrev pub invariant-loop-at : goal.invariant-loop-at
invariant-loop-at g l = record {
  long : length l.words ≡ g.row.K;
  each : (w : ℕ) → w < l.at
      → slice_index l.words w ≡ bit_and ((slice_index l.x.words w + slice_index l.self.offsets.words w) % 2 ^ 64 / 2 ^ l.self.shift) (slice_index l.units.words w);
}

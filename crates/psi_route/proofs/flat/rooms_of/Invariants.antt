-- Invariants of the loops of `rooms_of`.
use Rattle.std.proofs.Common.{◌≡◌, ℕ, ◌-◌, ◌<◌, length, slice_index}
use Rattle.psi_route.proofs.flat.rooms_of.Given as goal

abbrev pub invariant-loop-i : goal.invariant-loop-i
invariant-loop-i l = record {
  count : length l.rooms ≡ 32;
  each : (k : ℕ) → k < l.i → slice_index l.rooms k ≡ slice_index l.caps (slice_index l.targets k) - l.size;
}

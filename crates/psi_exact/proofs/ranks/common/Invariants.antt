-- Invariants of the loops of `common`.
use Rattle.std.proofs.Common.{◌≡◌, ℕ, ◌-◌, ◌<◌, ◌≤◌, length, slice_index}
use Rattle.psi_exact.proofs.ranks.common.Given as goal

abbrev pub invariant-loop-from : goal.invariant-loop-from
invariant-loop-from l = record {
  within : l.from ≤ length l.ranks;
  each : (k : ℕ) → k < l.from → slice_index l.ranks k ≡ slice_index l.ranks 0;
}

abbrev pub decreases-loop-from : goal.decreases-loop-from
decreases-loop-from l = length l.ranks - l.from

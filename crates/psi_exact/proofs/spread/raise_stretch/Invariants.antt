-- Invariants of the loops of `raise_stretch`.
use Rattle.std.proofs.Common.{◌≡◌, ℕ, ◌+◌, ◌-◌, ◌%◌, ◌<◌, ◌≤◌, slice_index}
use Rattle.psi_exact.proofs.spread.raise_stretch.Given as goal

abbrev pub invariant-loop-place : goal.invariant-loop-place
invariant-loop-place l = record {
  each : (c : ℕ) → c < l.place → slice_index l.ranks (l.target + c) ≡ (slice_index l.fn.ranks (l.source + c) + (l.target - l.source)) % 65536;
  before : (k : ℕ) → k < l.target → slice_index l.ranks k ≡ slice_index l.fn.ranks k;
  behind : (k : ℕ) → l.target + l.place ≤ k → slice_index l.ranks k ≡ slice_index l.fn.ranks k;
}

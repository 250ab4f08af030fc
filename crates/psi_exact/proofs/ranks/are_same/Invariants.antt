-- Invariants of the loops of `are_same`.
use Rattle.std.proofs.Common.{◌≡◌, ℕ, ◌<◌, ◌≤◌, true, false, length, slice_index}
use Rattle.psi_exact.proofs.ranks.are_same.Given as goal

abbrev pub invariant-loop-place : goal.invariant-loop-place
invariant-loop-place l = record {
  yes : l.same ≡ true → (k : ℕ) → l.from ≤ k → k < l.place → slice_index l.ranks k ≡ l.rank;
  no : l.same ≡ false → (k : ℕ) × (k < length l.ranks) × (slice_index l.ranks k ≡ l.rank → ⊥);
}

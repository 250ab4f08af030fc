-- Invariants of the loops of `count_distinct`.
use Rattle.std.proofs.Common.{◌≡◌, ℕ, ◌+◌, ◌<◌, ◌≤◌, length, drop, slice_index, if◌then◌else◌}
use Rattle.psi_exact.specs.Distinct.{distinct_count, stands}
use Rattle.psi_exact.proofs.ranks.count_distinct.Given as goal

-- the ranks after the place are counted, and those are marked that stand among them
abbrev pub invariant-loop-place : goal.invariant-loop-place
invariant-loop-place l = record {
  counted : l.count ≡ distinct_count (drop l.place l.ranks);
  most : l.count + l.place ≤ length l.ranks;
  marks : (r : ℕ) → r < length l.marks → slice_index l.marks r ≡ (if stands r (drop l.place l.ranks) then 1 else 0);
}

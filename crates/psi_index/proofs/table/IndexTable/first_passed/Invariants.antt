-- Invariants of the loops of `IndexTable::first_passed`.
use Rattle.std.proofs.Common.{ℕ, ◌+◌, ◌-◌, ◌<◌, ◌≤◌, length, slice_index}
use Rattle.psi_index.specs.Falls.{NeverFalls}
use Rattle.psi_index.proofs.FallsLemmas.{Passed}
use Rattle.psi_index.proofs.table.IndexTable.first_passed.Given as goal

abbrev pub invariant-loop-place : goal.invariant-loop-place
invariant-loop-place l = record {
  within : l.near ≤ length l.self;
  ordered : l.place ≤ length l.other;
  passed : Passed l.self l.other l.more l.near l.place;
  before : (w : ℕ) → w < l.place → NeverFalls l.self (slice_index l.other w + l.more);
}

abbrev pub decreases-loop-place : goal.decreases-loop-place
decreases-loop-place l = l.count - l.place

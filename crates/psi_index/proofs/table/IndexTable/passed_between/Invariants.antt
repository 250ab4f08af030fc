-- Invariants of the loops of `IndexTable::passed_between`.
use Rattle.std.proofs.Common.{ℕ, ◌+◌, ◌<◌, ◌≤◌, slice_index}
use Rattle.psi_index.specs.Falls.{NeverFalls}
use Rattle.psi_index.proofs.table.IndexTable.passed_between.Given as goal

abbrev pub invariant-loop-place : goal.invariant-loop-place
invariant-loop-place l = (w : ℕ) → l.first ≤ w → w < l.place → NeverFalls l.self (slice_index l.other w + l.more)

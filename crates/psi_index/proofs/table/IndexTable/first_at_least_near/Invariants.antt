-- Invariants of the loops of `IndexTable::first_at_least_near`.
use Rattle.std.proofs.Common.{◌<◌, ℕ, slice_index}
use Rattle.psi_index.proofs.table.IndexTable.first_at_least_near.Given as goal

abbrev pub invariant-loop-place : goal.invariant-loop-place
invariant-loop-place l = (k : ℕ) → k < l.place → slice_index l.self k < l.bound

-- Invariants of the loops of `row_list::ends_as`.
use Rattle.std.specs.Prelude.{◌≡◌, ℕ, ◌<◌, ◌≤◌, slice_index}
use Rattle.psi_log_format.proofs.row_list.ends_as.Given as goal

-- the numbers so far are the same
abbrev pub invariant-loop-queue : goal.invariant-loop-queue
invariant-loop-queue l = (k : ℕ) → 4 ≤ k → k < l.queue → slice_index l.row k ≡ slice_index l.x k

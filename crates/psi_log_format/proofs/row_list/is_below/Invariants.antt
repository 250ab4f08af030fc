-- Invariants of the loops of `row_list::is_below`.
use Rattle.std.specs.Prelude.{◌≡◌, ℕ, ◌<◌, ◌≤◌, ◌↔◌, slice_index}
use Rattle.psi_log_format.proofs.row_list.is_below.Given as goal

-- none is above where each so far is at most the other
abbrev pub invariant-loop-queue : goal.invariant-loop-queue
invariant-loop-queue l = (l.above ≡ 0) ↔ ((k : ℕ) → k < l.queue → slice_index l.row k ≤ slice_index l.most k)

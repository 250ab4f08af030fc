-- Invariants of the loops of `row_list::put_all`.
use Rattle.std.specs.Prelude.{◌≡◌, length, take}
use Rattle.psi_log_format.proofs.row_list.put_all.Given as goal

abbrev pub invariant-loop-queue : goal.invariant-loop-queue
invariant-loop-queue l = (length l.x ≡ length l.row) × (take l.queue l.x ≡ take l.queue l.row)

-- Invariants of the loops of `row_list::is_less`.
use Rattle.std.specs.Prelude.{◌≡◌, take}
use Rattle.psi_log_format.proofs.row_list.is_less.Given as goal

-- the numbers so far are the same
abbrev pub invariant-loop-queue : goal.invariant-loop-queue
invariant-loop-queue l = take l.queue l.row ≡ take l.queue l.next

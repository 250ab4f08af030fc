-- Invariants of the loops of `greatest`.
use Rattle.std.proofs.Common.{◌<◌, ◌≤◌, ℕ, slice_index}
use Rattle.psi_log_writer.proofs.writing.greatest.Given as goal

abbrev pub invariant-loop-queue : goal.invariant-loop-queue
invariant-loop-queue l = (i : ℕ) → i < l.queue → slice_index l.x i ≤ l.most

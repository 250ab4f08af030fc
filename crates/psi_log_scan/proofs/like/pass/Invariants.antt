-- Invariants of the loops of `like::pass`.
use Rattle.std.specs.Prelude.{◌≡◌, ◌+◌, ◌*◌, ◌≤◌, length, take}
use Rattle.psi_log_scan.specs.Scanned.{with_commas}
use Rattle.psi_log_scan.proofs.like.pass.Given as goal

abbrev pub invariant-loop-queue : goal.invariant-loop-queue
invariant-loop-queue l = record {
  value : length (with_commas (take l.from l.row)) + l.len ≡ length (with_commas (take l.queue l.row));
  room : l.len ≤ l.room;
  few : l.len ≤ 6 * l.queue;
}

-- Invariants of the loops of `scan::read_row`.
use Rattle.std.specs.Prelude.{◌≡◌, ◌≤◌, length, take}
use Rattle.psi_log_scan.specs.Scanned.{Stands, with_commas}
use Rattle.psi_log_scan.proofs.scan.read_row.Given as goal

abbrev pub invariant-loop-queue : goal.invariant-loop-queue
invariant-loop-queue l = record {
  count : length l.row ≡ length l.fn.row;
  within : l.end ≤ length l.text;
  there : Stands l.text l.at l.end (with_commas (take l.queue l.row));
}

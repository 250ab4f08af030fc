-- Invariants of the loops of `runs::front_len`.
use Rattle.std.specs.Prelude.{◌≡◌, ◌*◌, ◌≤◌, length, take}
use Rattle.psi_log_scan.specs.Scanned.{with_commas}
use Rattle.psi_log_scan.proofs.runs.front_len.Given as goal

abbrev pub invariant-loop-place : goal.invariant-loop-place
invariant-loop-place l = record {
  value : l.len ≡ length (with_commas (take l.place l.row));
  few : l.len ≤ 6 * l.place;
}

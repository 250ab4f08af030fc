-- Invariants of the loops of `head::time_at`.
use Rattle.std.specs.Prelude.{◌≤◌, ◌+◌, decimal}
use Rattle.psi_log_scan.specs.Scanned.{Stands}
use Rattle.psi_log_scan.proofs.head.time_at.Given as goal

abbrev pub invariant-loop-place : goal.invariant-loop-place
invariant-loop-place l = record {
  small : l.value ≤ 9999999;
  there : Stands l.text 5 (5 + l.place) (decimal l.value);
}

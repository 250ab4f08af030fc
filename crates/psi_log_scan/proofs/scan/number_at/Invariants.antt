-- Invariants of the loops of `scan::number_at`.
use Rattle.std.specs.Prelude.{◌≤◌, length, decimal}
use Rattle.psi_log_scan.specs.Scanned.{Stands}
use Rattle.psi_log_scan.proofs.scan.number_at.Given as goal

abbrev pub invariant-loop : goal.invariant-loop
invariant-loop l = record {
  within : l.end ≤ length l.text;
  small : l.value ≤ 9999999;
  there : Stands l.text l.at l.end (decimal l.value);
}

-- Invariants of the loops of `move_line::read_changes_onto`.
use Rattle.std.specs.Prelude.{◌≡◌, ◌≤◌, length}
use Rattle.psi_log_scan.proofs.MoveLineLemmas.{AreMoved}
use Rattle.psi_log_scan.proofs.move_line.read_changes_onto.Given as goal

abbrev pub invariant-loop : goal.invariant-loop
invariant-loop l = record {
  count : length l.to.lo ≡ l.queues;
  within : l.end ≤ length l.text;
  moved : AreMoved l.queues l.from l.text l.at l.end l.next l.to;
}

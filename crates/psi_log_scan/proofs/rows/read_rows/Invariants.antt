-- Invariants of the loops of `rows::read_rows`.
use Rattle.std.specs.Prelude.{◌≡◌, ◌≤◌, length, drop, true}
use Rattle.psi_log_words.specs.Regions.{ascends}
use Rattle.psi_log_scan.specs.Scanned.{AreScanned}
use Rattle.psi_log_scan.proofs.rows.read_rows.Given as goal

abbrev pub invariant-loop : goal.invariant-loop
invariant-loop l = record {
  queues : l.states.queues ≡ l.queues;
  count : length l.row ≡ l.queues;
  within : l.end ≤ length l.text;
  rows : AreScanned l.queues l.text l.at l.end l.fn.states.states l.states.states;
  order : ascends (drop (length l.fn.states.states) l.states.states) ≡ true;
}

-- Invariants of the loops of `runs::read_run`.
use Rattle.std.specs.Prelude.{◌≡◌, ◌≤◌, ◌*◌, ◌++◌, length, take, slice_set}
use Rattle.psi_log_format.specs.Rows.{rows}
use Rattle.psi_log_scan.specs.Inner.RowsViews.{EndsIn, IsRead}
use Rattle.psi_log_scan.proofs.runs.read_run.Given as goal

abbrev pub invariant-loop : goal.invariant-loop
invariant-loop l = record {
  queues : l.states.queues ≡ length l.row;
  size : length l.numbers ≡ 160;
  few : l.filled ≤ 160;
  count : l.filled ≡ l.count * length l.row;
  last : EndsIn (l.states.states ++ rows l.count (length l.row) (take l.filled l.numbers)) (slice_set l.row l.run.queue l.last);
  read : IsRead (length l.row) l.text l.at l.end l.fn.states.states (l.states.states ++ rows l.count (length l.row) (take l.filled l.numbers));
}

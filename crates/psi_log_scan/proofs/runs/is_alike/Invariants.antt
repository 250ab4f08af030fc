-- Invariants of the loops of `runs::is_alike`.
use Rattle.std.specs.Prelude.{◌*◌}
use Rattle.psi_log_scan.specs.Inner.RowsViews.{IsAlike}
use Rattle.psi_log_scan.proofs.runs.is_alike.Given as goal

abbrev pub invariant-loop-block : goal.invariant-loop-block
invariant-loop-block l = IsAlike l.text l.at l.run (16 * l.block)

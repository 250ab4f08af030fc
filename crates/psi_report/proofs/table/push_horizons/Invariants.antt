-- The rows of the elements before it are written.
use Rattle.std.proofs.Common.{ℕ, List, ◌++◌, map, take}
use Rattle.psi_report.specs.Inner.RecordsKept.{Holds}
use Rattle.psi_report.specs.Text.{count_row}
use Rattle.psi_report.proofs.table.push_horizons.Given as goal

abbrev pub invariant-loop-count : goal.invariant-loop-count
invariant-loop-count l = (rows : List (List (List ℕ))) → Holds l.fn.table rows → Holds l.table (rows ++ map count_row (take l.count-index l.counts))

-- The rows of the elements before it are written.
use Rattle.std.proofs.Common.{ℕ, List, ◌++◌, map, take}
use Rattle.psi_report.specs.Inner.RecordsKept.{Holds}
use Rattle.psi_report.specs.Text.{figure_row}
use Rattle.psi_report.proofs.table.push_figures.Given as goal

abbrev pub invariant-loop-figure : goal.invariant-loop-figure
invariant-loop-figure l = (rows : List (List (List ℕ))) → Holds l.fn.table rows → Holds l.table (rows ++ map figure_row (take l.figure-index l.figures))

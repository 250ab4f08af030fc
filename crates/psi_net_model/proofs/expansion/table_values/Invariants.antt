-- Invariants of the loops of `table_values`.
use Rattle.std.proofs.Common.{◌≡◌, ◌≤◌, take, map, length}
use Rattle.psi_rate.specs.Rates.{total}
use Rattle.psi_net_model.specs.Expansion.{most_index_values}
use Rattle.psi_net_model.proofs.expansion.table_values.Given as goal

abbrev pub invariant-loop-place : goal.invariant-loop-place
invariant-loop-place l = (l.values ≡ total (map length (take l.place l.tables))) × (l.values ≤ most_index_values)

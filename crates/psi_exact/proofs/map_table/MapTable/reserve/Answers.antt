-- Answers in the proof of `MapTable::reserve`.
use Rattle.psi_exact.proofs.RankTablesLemmas.{every-map_of}
use Rattle.psi_exact.proofs.map_table.MapTable.reserve.Goals as goal

pub returns-clause-every : goal.returns-clause-every
returns-clause-every c = every-map_of c.args.caps (λ x. x) c.in_ok-table.table c.in_ok-table.ensures

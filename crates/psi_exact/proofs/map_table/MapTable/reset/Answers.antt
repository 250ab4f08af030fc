-- Answers in the proof of `MapTable::reset`.
use Rattle.psi_exact.proofs.RankTablesLemmas.{every-map_of}
use Rattle.psi_exact.proofs.map_table.MapTable.reset.Goals as goal

pub returns-clause-every : goal.returns-clause-every
returns-clause-every c = every-map_of c.self.inside.table.caps (λ x. x) c.reset.new.self c.reset.ensures

-- Answers in the proof of `StateTable::count`.
use Rattle.psi_pool.proofs.KeepingLemmas.{table-length}
use Rattle.psi_pool.proofs.state_table.StateTable.count.Goals as goal

pub returns-then-self : goal.returns-then-self
returns-then-self c = table-length c.args.self.now c.requires c.if-self.true

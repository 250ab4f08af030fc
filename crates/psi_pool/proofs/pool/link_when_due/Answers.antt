-- Answers in the proof of `link_when_due`.
use Rattle.psi_pool.proofs.KeepingLemmas.{table-length}
use Rattle.psi_pool.proofs.pool.link_when_due.Goals as goal

pub returns-then-is_due-clause-once : goal.returns-then-is_due-clause-once
returns-then-is_due-clause-once c = λ whole. table-length c.link.new.self c.link.ensures.table c.link.ensures.linked

-- Answers in the proof of `Pool::len`.
use Rattle.psi_pool.proofs.KeepingLemmas.{pool-few, pool-rising}
use Rattle.psi_pool.proofs.pool.Pool.len.Goals as goal

pub returns-clause-few : goal.returns-clause-few
returns-clause-few c = pool-few c.self.inside.table c.self.inside.most _ c.args.self.now c.self.invariant c.self.view_is

pub returns-clause-rising : goal.returns-clause-rising
returns-clause-rising c = pool-rising c.self.inside.table c.self.inside.most c.args.self.now c.self.view_is

-- Answers in the proof of `Pool::contains`.
use Rattle.std.proofs.Common.{ap}
use Rattle.psi_pool.specs.Pooled.{Pooled}
use Rattle.psi_pool.specs.Inner.StateTablesKept.{held}
use Rattle.psi_pool.proofs.KeepingLemmas.{seek-set}
use Rattle.psi_pool.proofs.pool.Pool.contains.Goals as goal

pub returns : goal.returns
returns c =
    seek-set (held c.self.inside.table) c.args.self.now.states c.args.x.now c.has.result (ap (λ (p : Pooled). p.states) c.self.view_is) c.has.ensures

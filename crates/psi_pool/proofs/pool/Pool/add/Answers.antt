-- Answers in the proof of `Pool::add`.
use Rattle.std.proofs.Common.{◌∙◌, ◌∷◌, ap}
use Rattle.psi_state.specs.Sets.{insert_state}
use Rattle.psi_state.proofs.AscendingLemmas.{ascending-members}
use Rattle.psi_pool.specs.Pooled.{Pooled}
use Rattle.psi_pool.specs.Inner.StateTablesKept.{held}
use Rattle.psi_pool.proofs.pool.Pool.add.Goals as goal

pub returns-clause-states : goal.returns-clause-states
returns-clause-states c =
    ascending-members (held c.push.new.self) (c.args.x ∷ held c.self.inside.table) c.push.ensures.members
    ∙ ap (λ (p : Pooled). insert_state c.args.x p.states) c.self.view_is

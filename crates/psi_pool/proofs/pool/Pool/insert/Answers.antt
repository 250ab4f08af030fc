-- Answers in the proof of `Pool::insert`.
use Rattle.std.proofs.Common.{◌∙◌, ◌∷◌, List, ℕ, ap}
use Rattle.psi_state.specs.Sets.{insert_state}
use Rattle.psi_state.proofs.AscendingLemmas.{ascending-members}
use Rattle.psi_pool.specs.Pooled.{Pooled}
use Rattle.psi_pool.specs.Inner.StateTablesKept.{held}
use Rattle.psi_pool.proofs.KeepingLemmas.{table-free, table-length, told-fresh}
use Rattle.psi_pool.proofs.pool.Pool.insert.Goals as goal

pub put-requires-clause-room : goal.put-requires-clause-room
put-requires-clause-room c =
    table-free c.link.new.self c.self.inside.table c.self.inside.most c.args.self.now c.args.x c.link.ensures.table c.link.ensures.linked c.link.ensures.members
    c.self.view_is (c.link.ensures.room ∙ c.self.invariant.count) c.requires.room

pub returns-clause-states : goal.returns-clause-states
returns-clause-states c =
    ascending-members (held c.put.new.self) (c.args.x ∷ held c.link.new.self) c.put.ensures.members
    ∙ ap (λ (xs : List (List ℕ)). insert_state c.args.x xs)
    (ascending-members (held c.link.new.self) (held c.self.inside.table) c.link.ensures.members ∙ ap (λ (p : Pooled). p.states) c.self.view_is)

pub returns-clause-fresh : goal.returns-clause-fresh
returns-clause-fresh c =
    told-fresh (held c.link.new.self) (held c.self.inside.table) c.self.inside.most c.args.self.now c.args.x c.put.result c.link.ensures.members c.self.view_is
    c.put.ensures.fresh

pub invariant_of-self : goal.invariant_of-self
invariant_of-self c = record {
  table = c.put.ensures.table;
  count = c.put.ensures.room ∙ (c.link.ensures.room ∙ c.self.invariant.count);
  listed = c.self.invariant.listed;
  paced = c.self.invariant.paced;
  once = λ whole. table-length c.put.new.self c.put.ensures.table c.put.ensures.linked;
}

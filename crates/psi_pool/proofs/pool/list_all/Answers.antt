-- Answers in the proof of `list_all`.
use Rattle.std.proofs.Common.{◌∙◌}
use Rattle.psi_state.proofs.SameLemmas.{same-through}
use Rattle.psi_state.proofs.AscendingLemmas.{ascending-members}
use Rattle.psi_pool.specs.Inner.StateTablesKept.{held}
use Rattle.psi_pool.proofs.pool.list_all.Goals as goal

pub returns-then-list-clause-members : goal.returns-then-list-clause-members
returns-then-list-clause-members c =
    same-through c.list.ensures.members c.loop-merge.invariant.members

pub returns-then-list-clause-states : goal.returns-then-list-clause-states
returns-then-list-clause-states c =
    c.list.ensures.states c.if-list.true ∙ ascending-members (held c.loop-merge.table) (held c.args.table.now) c.loop-merge.invariant.members

pub loop-merge-preserved : goal.loop-merge-preserved
loop-merge-preserved c = record {
  table = c.list.ensures.table;
  members = same-through c.list.ensures.members c.loop-merge.invariant.members;
  room = c.list.ensures.room ∙ c.loop-merge.invariant.room;
  capacity = c.list.ensures.capacity ∙ c.loop-merge.invariant.capacity;
}

pub returns-clause-members : goal.returns-clause-members
returns-clause-members c =
    same-through c.sort.ensures.members c.loop-merge.invariant.members

pub returns-clause-states : goal.returns-clause-states
returns-clause-states c =
    c.sort.ensures.states ∙ ascending-members (held c.loop-merge.table) (held c.args.table.now) c.loop-merge.invariant.members

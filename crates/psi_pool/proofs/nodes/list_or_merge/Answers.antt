-- Answers in the proof of `list_or_merge`.
use Rattle.std.proofs.Common.{◌+◌, ◌++◌, List, ℕ, length, subst}
use Rattle.psi_state.specs.Ascending.{HaveSame}
use Rattle.psi_state.proofs.SameLemmas.{same-through}
use Rattle.psi_pool.specs.Inner.NodesKept.{states}
use Rattle.psi_pool.proofs.ListingLemmas.{listed-all}
use Rattle.psi_pool.proofs.nodes.list_or_merge.Goals as goal

pub returns-then-len-nodes-clause-listed : goal.returns-then-len-nodes-clause-listed
returns-then-len-nodes-clause-listed c =
    let all = c.list_ascending-aside.ensures in
    listed-all c.list_ascending-aside.new.nodes c.args.nodes.now c.list_ascending-aside.new.out.items c.list_ascending-aside.result (length c.args.nodes.now) all.rising all.members

pub returns-clause-members : goal.returns-clause-members
returns-clause-members c =
    let moved = c.list_ascending-aside.new.nodes in
    let out = c.list_ascending-aside.new.out.items in
    let aside = c.list_ascending-aside.result in
    let merged : HaveSame (states c.merge.new.nodes (length out + aside)) (out ++ states moved aside) =
    subst (λ (xs : List (List ℕ)). HaveSame (states c.merge.new.nodes (length xs + aside)) (xs ++ states moved aside)) c.as_slice.ensures.value c.merge.ensures in
    same-through merged c.list_ascending-aside.ensures.members

pub returns-clause-listed : goal.returns-clause-listed
returns-clause-listed c =
    let all = c.list_ascending-aside.ensures in
    listed-all c.list_ascending-aside.new.nodes c.args.nodes.now c.list_ascending-aside.new.out.items c.list_ascending-aside.result (length c.args.nodes.now) all.rising all.members

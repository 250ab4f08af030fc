-- Answers in the proof of `StateTable::sort`.
use Rattle.std.proofs.Common.{List, length, sym, ◌∙◌, subst, ap}
use Rattle.std.specs.Vec.{with_items}
use Rattle.std.proofs.lemmas.List.{with_items_is}
use Rattle.psi_state.specs.Sets.{ascending}
use Rattle.psi_state.specs.Ascending.{HaveSame}
use Rattle.psi_state.proofs.SameLemmas.{same-through}
use Rattle.psi_state.proofs.AscendingLemmas.{ascending-members}
use Rattle.psi_pool.specs.declared.nodes.Node.{Node}
use Rattle.psi_pool.specs.Inner.NodesKept.{states}
use Rattle.psi_pool.specs.Inner.StateTablesKept.{held}
use Rattle.psi_pool.proofs.state_table.StateTable.sort.Goals as goal

pub returns-clause-members : goal.returns-clause-members
returns-clause-members c =
    let t = c.link.new.self in
    let moved = c.sort_first.new.nodes in
    let n = length c.sort_first.new.out.items in
    let all = with_items_is t.nodes moved (c.sort_first.auto.nodes ∙ c.as_mut_slice.ensures.len) in
    let sorted : HaveSame (states moved n) (held t) =
    subst (λ (ns : List Node). HaveSame (states moved n) (states ns t.len)) c.as_mut_slice.ensures.value c.sort_first.ensures.members in
    let whole = same-through sorted c.link.ensures.members in
    subst (λ k. HaveSame (states (with_items t.nodes moved).items k) (held c.args.self.now)) (sym (c.len.ensures ∙ c.sort_first.new.out.ok.0))
    (subst (λ (ns : List Node). HaveSame (states ns n) (held c.args.self.now)) (sym all) whole)

pub returns-clause-states : goal.returns-clause-states
returns-clause-states c =
    let t = c.link.new.self in
    c.sort_first.ensures.listed ∙ (ap (λ (ns : List Node). ascending (states ns t.len)) c.as_mut_slice.ensures.value
    ∙ ascending-members (held t) (held c.args.self.now) c.link.ensures.members)

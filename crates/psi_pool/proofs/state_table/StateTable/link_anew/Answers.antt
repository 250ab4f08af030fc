-- Answers in the proof of `StateTable::link_anew`.
use Rattle.std.proofs.Common.{ℕ, List, length, ap, ◌∙◌}
use Rattle.std.proofs.lemmas.List.{with_items_is}
use Rattle.psi_pool.specs.declared.nodes.Node.{Node}
use Rattle.psi_pool.specs.Inner.NodesKept.{states}
use Rattle.psi_pool.proofs.KeepingLemmas.{table-linked}
use Rattle.psi_pool.proofs.state_table.StateTable.link_anew.Goals as goal

pub returns-clause-table : goal.returns-clause-table
returns-clause-table c =
    table-linked c.args.self.now c.relink.new.nodes c.relink.new.heads (states c.as_mut_slice.result.now c.args.self.now.len) c.requires
    (with_items_is c.args.self.now.nodes c.relink.new.nodes (c.relink.auto.nodes ∙ c.as_mut_slice.ensures.len))
    (with_items_is c.args.self.now.heads c.relink.new.heads (c.relink.auto.heads ∙ c.as_mut_slice-2.ensures.len))
    (c.relink.auto.nodes ∙ ap (λ (ns : List Node). length ns) c.as_mut_slice.ensures.value)
    (c.relink.auto.heads ∙ ap (λ (hs : List ℕ). length hs) c.as_mut_slice-2.ensures.value)
    c.buckets_for-self.ensures c.relink.ensures.fewer c.relink.ensures.holds

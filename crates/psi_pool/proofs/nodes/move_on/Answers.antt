-- Answers in the proof of `move_on`.
use Rattle.std.proofs.Common.{length, sym, ◌∙◌, subst, refl, arith}
use Rattle.psi_state.specs.State.{IsBelow}
use Rattle.psi_pool.specs.declared.nodes.Node.{Node}
use Rattle.psi_pool.specs.Inner.NodesKept.{node_at}
use Rattle.psi_pool.proofs.PlacesLemmas.{node-read, In-at}
use Rattle.psi_pool.proofs.nodes.move_on.Goals as goal

pub apply-requires : goal.apply-requires
apply-requires g c =
    let same = c.loop-node.auto.nodes in
    subst (λ (n : Node). IsBelow n.state (g.E.EventLaw.capacities c.args.e.now))
    (sym (node-read c.loop-node.nodes c.loop-node.node-index c.node-item.result (omega arith) ∙ c.loop-node.invariant.waiting c.loop-node.node-index (omega arith)))
    (c.requires (node_at c.args.nodes.now c.loop-node.node-index).state
    (In-at c.args.nodes.now (length c.args.nodes.now) c.loop-node.node-index (node_at c.args.nodes.now c.loop-node.node-index).state (omega arith) (omega arith) refl))

-- Answers in the proof of `one_state`.
use Rattle.std.proofs.Common.{◌≡◌, nat_eq, get_or, ap, sym, ◌∙◌, arith}
use Rattle.std.proofs.lemmas.Bool.{not-true}
use Rattle.std.specs.Cmp.Lexicographic.{pointwise}
use Rattle.psi_state.proofs.StatesLemmas.{apart-from_eq}
use Rattle.psi_pool.specs.declared.nodes.Node.{Node}
use Rattle.psi_pool.specs.Inner.NodesKept.{node_at}
use Rattle.psi_pool.proofs.PlacesLemmas.{node-read}
use Rattle.psi_pool.proofs.CountingLemmas.{one-all, one-apart}
use Rattle.psi_pool.proofs.nodes.one_state.Goals as goal

pub returns-then-ne : goal.returns-then-ne
returns-then-ne c =
    let nodes = c.args.nodes.now in
    let first = (get_or nodes 0 c.index-nodes-0.result).state in
    let read : (node_at nodes 0).state ≡ first = ap (λ (n : Node). n.state) (sym (node-read nodes 0 c.index-nodes-0.result (omega arith))) in
    let item : (node_at nodes c.loop-node.node-index).state ≡ c.node-item.result.state =
    ap (λ (n : Node). n.state) (sym (c.node-item.is ∙ node-read nodes c.loop-node.node-index c.node-item.result (omega arith))) in
    sym (one-apart nodes c.loop-node.node-index first read (omega arith)
    (λ e. apart-from_eq c.node-item.result.state first (not-true (pointwise nat_eq c.node-item.result.state first) (sym c.ne.ensures ∙ c.if-ne.true)) (sym item ∙ e)))

pub returns : goal.returns
returns c =
    let nodes = c.args.nodes.now in
    sym (one-all nodes (get_or nodes 0 c.index-nodes-0.result).state (sym c.is_empty.ensures ∙ c.if-is_empty.false) (λ i small. c.loop-node.invariant i (omega arith)))

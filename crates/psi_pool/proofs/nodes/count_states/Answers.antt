-- Answers in the proof of `count_states`.
use Rattle.std.proofs.Common.{◌≡◌, List, ℕ, get_or, ap, ◌∙◌, subst, refl, arith}
use Rattle.psi_state.specs.Members.{In}
use Rattle.psi_pool.specs.declared.nodes.Node.{Node}
use Rattle.psi_pool.specs.Inner.NodesKept.{node_at, states}
use Rattle.psi_pool.proofs.PlacesLemmas.{node-read}
use Rattle.psi_pool.proofs.KeepingLemmas.{seek-whole, seek-absent}
use Rattle.psi_pool.proofs.CountingLemmas.{count-next_new, count-next_there}
use Rattle.psi_pool.proofs.nodes.count_states.Goals as goal
use Rattle.psi_pool.proofs.nodes.count_states.Goals.{then-not-stands_in, else-not-stands_in}

pub loop-place-preserved : goal.loop-place-preserved
loop-place-preserved c =
    let nodes = c.args.nodes.now in
    let place = c.loop-place.place in
    let x = (get_or nodes place c.index-nodes-place.result).state in
    let within = c.loop-place-test.true in
    let few = c.loop-place.invariant.few in
    let read : x ≡ (node_at nodes place).state =
    ap (λ (n : Node). n.state) (node-read nodes place c.index-nodes-place.result (omega arith)) in
    let told = seek-whole nodes nodes place x c.stands_in.result refl c.stands_in.ensures in
    elim c.if-not-stands_in.branch [
      | then-not-stands_in w ↦ record {
        count = w.count-is ∙ count-next_new nodes place c.loop-place.count (omega arith) c.loop-place.invariant.count
            (subst (λ (y : List ℕ). In y (states nodes place) → ⊥) read (seek-absent (states nodes place) x c.stands_in.result told w.if-not-stands_in.true));
        few = (let is = w.count-is in omega arith);
      }
      | else-not-stands_in w ↦ record {
        count = w.count-is ∙ count-next_there nodes place c.loop-place.count (omega arith) c.loop-place.invariant.count
            (subst (λ (y : List ℕ). In y (states nodes place)) read (told.0 w.if-not-stands_in.false));
        few = (let is = w.count-is in omega arith);
      }
    ]

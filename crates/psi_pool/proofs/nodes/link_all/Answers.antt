-- Answers in the proof of `link_all`.
use Rattle.std.proofs.Common.{◌≡◌, ◌-◌, length, get_or, arith, refl, true}
use Rattle.psi_pool.specs.Inner.NodesKept.{states}
use Rattle.psi_pool.proofs.RelinkingLemmas.{relink-start, relink-more, relink-fewer, relink-end}
use Rattle.psi_pool.proofs.nodes.link_all.Goals as goal

pub loop-place-init : goal.loop-place-init
loop-place-init c = record {
  relinking = relink-start (length c.args.heads.now) c.args.nodes.now c.args.heads.now (length c.args.nodes.now) (omega arith) c.requires.none;
  fewer = omega arith;
}

pub loop-place-preserved-then-link : goal.loop-place-preserved-then-link
loop-place-preserved-then-link c = record {
  relinking = relink-more (states c.args.nodes.now (length c.args.nodes.now)) (length c.loop-place.heads) c.loop-place.nodes c.link.new.nodes c.loop-place.heads c.link.new.heads
      c.loop-place.place c.loop-place.left c.loop-place.invariant.relinking (omega arith) c.link.auto.nodes c.link.ensures.states
      (length c.link.new.heads) (c.link.ensures.linked c.if-link.true) (c.link.ensures.fresh c.if-link.true);
  fewer = c.loop-place.invariant.fewer;
}

pub loop-place-preserved : goal.loop-place-preserved
loop-place-preserved c =
    let no : c.link.result ≡ true → ⊥ = λ yes. (let not = c.if-link.false in cc) in
    record {
      relinking = relink-fewer (states c.args.nodes.now (length c.args.nodes.now)) (length c.loop-place.heads) c.loop-place.nodes c.link.new.nodes c.loop-place.heads c.link.new.heads
          c.loop-place.place c.loop-place.left (c.loop-place.left - 1) c.loop-place.invariant.relinking (omega arith) c.link.auto.nodes c.link.ensures.states (omega arith)
          (record {
            state = (get_or c.link.new.nodes (c.loop-place.left - 1) c.index-nodes-left.result).state;
            next = (get_or c.link.new.nodes c.loop-place.place c.index-nodes-place.result).next;
          }) c.index-nodes-left.result refl
          (length c.link.new.heads) (c.link.ensures.still no) (c.link.ensures.there no);
      fewer = (let fewer = c.loop-place.invariant.fewer in omega arith);
    }

pub returns-clause-holds : goal.returns-clause-holds
returns-clause-holds c =
    relink-end (states c.args.nodes.now (length c.args.nodes.now)) (length c.loop-place.heads) c.loop-place.nodes c.loop-place.heads
    c.loop-place.place c.loop-place.left (omega arith) c.loop-place.invariant.relinking

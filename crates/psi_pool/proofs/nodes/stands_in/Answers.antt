-- Answers in the proof of `stands_in`.
use Rattle.std.proofs.Common.{length, arith, sym, ◌∙◌, refl}
use Rattle.psi_pool.proofs.PlacesLemmas.{place-of}
use Rattle.psi_pool.proofs.SeekingLemmas.{seek-found}
use Rattle.psi_pool.proofs.nodes.stands_in.Goals as goal

pub returns-then-eq : goal.returns-then-eq
returns-then-eq c = (
  λ yes. seek-found c.args.nodes.now c.loop-node.node-index c.args.x.now c.node-item.result (omega arith) c.node-item.is (sym c.eq.ensures ∙ c.if-eq.true),
  λ member. refl,
)

pub returns : goal.returns
returns c = (
  λ no. absurd cc,
  λ member. (let found = place-of c.args.nodes.now (length c.args.nodes.now) c.args.x.now member in
      let small = found.2 in
      absurd (c.loop-node.invariant found.0 (omega arith) found.3)),
)

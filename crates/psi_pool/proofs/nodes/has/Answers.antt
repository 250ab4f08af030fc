-- Answers in the proof of `has`.
use Rattle.std.proofs.Common.{length, arith, sym, ◌∙◌, refl}
use Rattle.psi_pool.proofs.SeekingLemmas.{seek-found, seek-end}
use Rattle.psi_pool.proofs.nodes.has.Goals as goal

pub returns-then-eq : goal.returns-then-eq
returns-then-eq c = (
  λ yes. seek-found c.args.nodes.now c.loop-link.link c.args.x.now c.index-nodes-link.result (omega arith) c.index-nodes-link.is (sym c.eq.ensures ∙ c.if-eq.true),
  λ member. refl,
)

pub returns : goal.returns
returns c = (
  λ no. absurd cc,
  λ member. absurd (seek-end (length c.args.heads.now) c.args.nodes.now (length c.args.nodes.now) c.args.x.now c.loop-link.link (omega arith) c.loop-link.invariant member),
)

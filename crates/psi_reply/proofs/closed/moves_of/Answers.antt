-- Answers in the proof of `closed::moves_of`.
use Rattle.std.proofs.Common.{◌∙◌, ap, List, take, ◌+◌, sym, subst, arith}
use Rattle.psi_kinds.specs.declared.Move.{Move}
use Rattle.psi_reply.specs.Closed.{AreMovesOf}
use Rattle.psi_reply.specs.Reply.{moves_reply}
use Rattle.psi_reply.proofs.ClosingLemmas.{first_other-some, moves-more}
use Rattle.psi_reply.proofs.closed.moves_of.Goals as goal

pub returns-in_default-moves-clause-none : goal.returns-in_default-moves-clause-none
returns-in_default-moves-clause-none c =
    let first = first_other-some c.args.net.now c.loop-e.e c.loop-e.moves.items (omega arith) c.loop-e.invariant (c.moves.ensures.value ∙ c.in_default-moves.is) in
    λ reply. ap (λ o. moves_reply o reply) (sym first)

pub loop-e-preserved : goal.loop-e-preserved
loop-e-preserved c =
    subst (λ (ms : List Move). AreMovesOf (take (c.loop-e.e + 1) c.args.net.now.events) ms) (sym c.in-Ok-push.ensures.items)
    (moves-more c.args.net.now.events c.loop-e.e c.loop-e.moves.items c.in-Some.one c.loop-e.invariant c.in-Some.ensures.value)

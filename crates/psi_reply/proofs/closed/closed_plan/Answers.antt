-- Answers in the proof of `closed::closed_plan`.
use Rattle.std.proofs.Common.{ℕ, List, ◌∙◌, sym, subst}
use Rattle.psi_closed.specs.Planned.{AreMoves}
use Rattle.psi_net_model.specs.Network.{caps_of}
use Rattle.psi_reply.proofs.ClosingLemmas.{each-move}
use Rattle.psi_reply.proofs.closed.closed_plan.Goals as goal

pub new-requires-clause-moves : goal.new-requires-clause-moves
new-requires-clause-moves c =
    subst (λ (caps : List ℕ). AreMoves caps c.args.moves.now) (sym (c.caps.ensures.value ∙ c.system-system.ensures.caps))
    (each-move (caps_of c.args.net.now) c.args.net.now.events c.args.moves.now c.system-system.ensures.kept.kinds c.requires.moves)

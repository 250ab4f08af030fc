-- Invariants of the loops of `push_state`.
use Rattle.std.proofs.Common.{◌≡◌, ◌++◌, take}
use Rattle.psi_reply.specs.Texts.{state_text}
use Rattle.psi_reply.proofs.pieces.push_state.Given as goal

abbrev pub invariant-loop-queue : goal.invariant-loop-queue
invariant-loop-queue l = l.text.items ≡ l.fn.text.items ++ state_text (take l.queue l.state)

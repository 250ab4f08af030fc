-- Invariants of the loops of `draw`.
use Rattle.psi_past.specs.Drawn.{Draws}
use Rattle.psi_past.proofs.drawing.draw.Given as goal

-- the words before this one are drawn
abbrev pub invariant-loop-at : goal.invariant-loop-at
invariant-loop-at l = Draws l.at 0 l.fn.generator l.generator l.fn.out l.out

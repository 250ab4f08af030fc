-- Invariants of the loops of `draw_blocks`.
use Rattle.std.proofs.Common.{◌*◌}
use Rattle.psi_past.specs.Drawn.{Draws}
use Rattle.psi_past.proofs.drawing.draw_blocks.Given as goal

-- the blocks before this one are drawn
abbrev pub invariant-loop-block : goal.invariant-loop-block
invariant-loop-block l = Draws (64 * l.block) 0 l.fn.generator l.generator l.fn.out l.out

-- Answers in the proof of `draw`.
use Rattle.std.proofs.Common.{◌+◌, refl, arith}
use Rattle.psi_past.proofs.DrawnLemmas.{draws-more}
use Rattle.psi_past.proofs.drawing.draw.Goals as goal

pub loop-at-preserved : goal.loop-at-preserved
loop-at-preserved c = draws-more c.loop-at.at 1 (c.loop-at.at + 1) 0 c.loop-at.at _ _ _ _ _ _ c.loop-at.invariant c.draw_one.ensures (omega arith) refl

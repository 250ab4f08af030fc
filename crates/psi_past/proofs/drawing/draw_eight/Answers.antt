-- Answers in the proof of `draw_eight`.
use Rattle.std.proofs.Common.{refl}
use Rattle.psi_past.proofs.DrawnLemmas.{draws-eight}
use Rattle.psi_past.proofs.drawing.draw_eight.Goals as goal

pub returns : goal.returns
returns c =
    draws-eight 1 8 c.args.at _ _ _ _ _ _ _ _ _ _ _ _ _ _ _ _ _ _ c.draw_one.ensures c.draw_one-2.ensures c.draw_one-3.ensures c.draw_one-4.ensures c.draw_one-5.ensures c.draw_one-6.ensures c.draw_one-7.ensures c.draw_one-8.ensures refl

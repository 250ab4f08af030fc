-- Answers in the proof of `draw_block`.
use Rattle.std.proofs.Common.{refl}
use Rattle.psi_past.proofs.DrawnLemmas.{draws-eight, draws-put}
use Rattle.psi_past.proofs.drawing.draw_block.Goals as goal

pub returns : goal.returns
returns c =
    let block = draws-eight 8 64 0 _ _ _ _ _ _ _ _ _ _ _ _ _ _ _ _ _ _ c.draw_eight.ensures c.draw_eight-2.ensures c.draw_eight-3.ensures c.draw_eight-4.ensures c.draw_eight-5.ensures c.draw_eight-6.ensures c.draw_eight-7.ensures c.draw_eight-8.ensures refl in
    draws-put c.args.at _ _ _ _ _ _ block c.put_block.ensures.same_length c.put_block.ensures.kept c.put_block.ensures.put

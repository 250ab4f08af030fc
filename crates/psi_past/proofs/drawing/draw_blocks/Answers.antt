-- Answers in the proof of `draw_blocks`.
use Rattle.std.proofs.Common.{◌+◌, ◌*◌, refl, arith}
use Rattle.psi_past.proofs.DrawnLemmas.{draws-block}
use Rattle.psi_past.proofs.drawing.draw_blocks.Goals as goal

pub loop-block-preserved : goal.loop-block-preserved
loop-block-preserved c =
    let fits = c.requires.fits in
    let places = c.requires.places in
    let last = c.loop-block-test.true in
    draws-block c.loop-block.block c.args.first (64 * (c.args.first + c.loop-block.block)) _ _ _ _ _ _ _ c.loop-block.invariant c.requires.place refl
    c.set_word_pos.ensures (omega arith) c.draw_block.ensures

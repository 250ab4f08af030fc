-- Answers in the proof of `push_image_lines`.
use Rattle.std.proofs.Common.{arith}
use Rattle.psi_reply.proofs.ImagingLemmas.{shift-power, image_lines_pushed}
use Rattle.psi_reply.proofs.surveys.push_image_lines.Goals as goal

pub loop-k-preserved : goal.loop-k-preserved
loop-k-preserved c =
    let test = c.loop-k-test.true in
    let most = c.len-k-end.ensures.most in
    image_lines_pushed c.args.text.now.items _ _ c.args.sizes.now c.loop-k.k _ c.get.result (omega arith) (shift-power c.loop-k.k (omega arith)) c.get.ensures
    c.loop-k.invariant c.in_ok-push_image_line.ensures

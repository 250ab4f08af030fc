use Rattle.std.proofs.Common.{◌≡◌, arith, length}
use Rattle.psi_state.specs.State.{box}
use Rattle.psi_follow_packed.proofs.WidthsLemmas.{words-first, words-step, words-all, count-tells}
use Rattle.psi_follow_packed.proofs.boxes.has_at_most.Goals as goal

pub loop-at-init : goal.loop-at-init
loop-at-init g c = λ p low high is bits gaps lo hi corners. words-first g.row.K p low high lo hi is corners c.args.most

pub loop-at-preserved : goal.loop-at-preserved
loop-at-preserved g c = λ p low high is bits gaps lo hi corners.
    words-step g.row.K p low high lo hi is corners c.args.most c.loop-at.count c.times_widths-count.result c.loop-at.at _ c.args.bits
    (omega arith) bits (gaps c.loop-at.at (omega arith))
    c.times_widths-count.ensures (c.loop-at.invariant p low high is bits gaps lo hi corners)

pub returns : goal.returns
returns g c = λ p low high is bits gaps lo hi corners.
    let end : c.loop-at.at ≡ g.row.K = omega arith in
    count-tells c.args.most (length (box lo hi)) c.loop-at.count
    (words-all g.row.K p low high lo hi is corners c.args.most c.loop-at.count c.loop-at.at end (c.loop-at.invariant p low high is bits gaps lo hi corners))

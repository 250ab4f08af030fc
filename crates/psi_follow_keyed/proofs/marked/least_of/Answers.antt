-- Answers in the proof of `least_of`.
use Rattle.std.proofs.Common.{arith}
use Rattle.psi_follow_keyed.proofs.MarkingLemmas.{least-below, least-reached}
use Rattle.psi_follow_keyed.proofs.marked.least_of.Goals as goal

pub loop-i-preserved : goal.loop-i-preserved
loop-i-preserved c =
    let l = c.loop-i in
    record {
      below = least-below c.args.keys.now l.i l.least c.min-least.result c.min-least.ensures l.invariant.below;
      reached = least-reached c.args.keys.now l.i l.least c.min-least.result (omega arith) c.min-least.ensures l.invariant.reached;
    }

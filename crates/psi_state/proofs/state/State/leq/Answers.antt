-- Answers in the proof of `State::leq`.
use Rattle.std.proofs.Common.{arith}
use Rattle.psi_state.proofs.ComparingLemmas.{below-next, below-told}
use Rattle.psi_state.proofs.state.State.leq.Goals as goal

pub loop-i-preserved : goal.loop-i-preserved
loop-i-preserved c =
    below-next c.self.inside.values c.other.inside.values c.loop-i.above c.saturating_sub-above.result c.loop-i.i c.saturating_sub-above.ensures c.loop-i.invariant

pub returns : goal.returns
returns c =
    let own = c.self.inside in
    let most = c.other.inside in
    below-told own.values most.values c.args.self.now c.args.other.now own.len most.len c.loop-i.above c.loop-i.i
    c.self.invariant.1 c.self.invariant.2 c.self.invariant.3 c.self.view_is c.other.invariant.1 c.other.invariant.2 c.other.invariant.3 c.other.view_is
    c.requires (omega arith) c.loop-i.invariant

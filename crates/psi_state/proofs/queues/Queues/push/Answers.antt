-- Answers in the proof of `Queues::push`.
use Rattle.std.proofs.Common.{arith}
use Rattle.psi_state.proofs.ArraysLemmas.{array-pushed, slice_set-small}
use Rattle.psi_state.proofs.queues.Queues.push.Goals as goal

pub invariant_of-self : goal.invariant_of-self
invariant_of-self c =
    let kept = c.self.invariant in
    let pushed = array-pushed 32 c.self.inside.items c.self.inside.len c.args.self.now c.args.q 0 kept.0 kept.1 kept.2 c.self.view_is c.requires in
    (pushed.0, pushed.1, pushed.2, slice_set-small c.self.inside.items c.self.inside.len c.args.q 256 (omega arith) (omega arith) kept.3)

-- Answers in the proof of `Sizes::push`.
use Rattle.std.proofs.Common.{arith}
use Rattle.psi_state.proofs.ArraysLemmas.{array-pushed}
use Rattle.psi_exact.proofs.sizes.Sizes.push.Goals as goal

pub invariant_of-self : goal.invariant_of-self
invariant_of-self c =
    let kept = c.self.invariant in
    let pushed = array-pushed 13 c.self.inside.values c.self.inside.len c.args.self.now c.args.size 0 kept.1 kept.2 kept.3 c.self.view_is c.requires in
    (omega arith, pushed.0, pushed.1, pushed.2)

-- Answers in the proof of `Parts::push`.
use Rattle.psi_state.proofs.ArraysLemmas.{array-pushed}
use Rattle.psi_guard.specs.Inner.PartsKept.{no_part}
use Rattle.psi_guard.proofs.parts.Parts.push.Goals as goal

pub invariant_of-self : goal.invariant_of-self
invariant_of-self c =
    let kept = c.self.invariant in
    array-pushed 32 c.self.inside.items c.self.inside.len c.args.self.now c.args.p no_part kept.0 kept.1 kept.2 c.self.view_is c.requires

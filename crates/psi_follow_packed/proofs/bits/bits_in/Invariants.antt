use Rattle.psi_follow_packed.specs.Inner.BitsKept.{KnowsBits}
use Rattle.psi_follow_packed.proofs.bits.bits_in.Given as goal

abbrev pub invariant-loop-at : goal.invariant-loop-at
invariant-loop-at g l = KnowsBits l.at l.x.words l.found

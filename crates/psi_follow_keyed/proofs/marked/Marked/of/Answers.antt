-- Answers in the proof of `Marked::of`.
use Rattle.std.proofs.Common.{arith, refl}
use Rattle.psi_follow_keyed.proofs.MarkingLemmas.{none-marked}
use Rattle.psi_follow_keyed.proofs.marked.Marked.of.Goals as goal

pub loop-place-init : goal.loop-place-init
loop-place-init c = record {
  count = refl;
  own = λ i small. absurd (omega arith);
  past = λ i past small. none-marked i small;
}

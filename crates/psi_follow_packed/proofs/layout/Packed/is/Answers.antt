use Rattle.std.proofs.Common.{refl, arith}
use Rattle.std.proofs.lemmas.Grind.{same_number_lists}
use Rattle.psi_follow_packed.proofs.layout.Packed.is.Goals as goal

pub returns : goal.returns
returns g c = (
  λ yes. same_number_lists c.args.self.now.words c.args.other.now.words (omega arith) (λ w small. c.loop-at.invariant w (omega arith)),
  λ same. refl,
)

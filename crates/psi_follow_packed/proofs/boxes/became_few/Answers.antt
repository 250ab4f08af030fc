use Rattle.std.proofs.Common.{ℕ, List, subst}
use Rattle.psi_follow_packed.specs.Boxes.{AreGaps}
use Rattle.psi_follow_packed.proofs.boxes.became_few.Goals as goal

pub returns-then-is : goal.returns-then-is
returns-then-is g c = λ p low high is bits gaps.
    c.requires.many p low high is bits (subst (λ (words : List ℕ). AreGaps g.row.K low high words) (c.is.ensures.0 c.if-is.true) gaps)

-- Answers in the proof of `value_by_ends`.
use Rattle.std.proofs.Common.{ℕ, List, IfSome, sym, subst}
use Rattle.psi_state.specs.State.{IsBelow}
use Rattle.psi_couple.proofs.value.value_by_ends.Goals as goal

pub value_between-found-requires : goal.value_between-found-requires
value_between-found-requires g c = subst (λ (caps : List ℕ). IfSome c.ends-ends.result (λ b. IsBelow b.hi caps)) (sym c.requires.caps) c.ends-ends.ensures.within

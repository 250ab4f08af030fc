-- Answers in the proof of `Plan::replace`.
use Rattle.std.proofs.Common.{refl}
use Rattle.psi_horizon.proofs.RunningLemmas.{plan-rests}
use Rattle.psi_horizon.proofs.plan.Plan.replace.Goals as goal

pub invariant_of-self : goal.invariant_of-self
invariant_of-self g c = plan-rests c.self.invariant (c.clear.ensures _ _ _ _ c.self.invariant.kept) refl

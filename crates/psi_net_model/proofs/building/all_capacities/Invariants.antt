-- Invariants of the loops of `all_capacities`.
use Rattle.psi_net_model.proofs.PartsLemmas.{AreSet}
use Rattle.psi_net_model.proofs.building.all_capacities.Given as goal

abbrev pub invariant-loop-place : goal.invariant-loop-place
invariant-loop-place l = AreSet l.caps l.queues l.place

-- Answers in the proof of `capacities`.
use Rattle.std.proofs.Common.{List, ℕ, sym, subst}
use Rattle.psi_state.specs.State.{AreCapacities}
use Rattle.psi_net_model.proofs.QueueLemmas.{capacities_kept}
use Rattle.psi_net_model.proofs.building.capacities.Goals as goal

pub returns-clause-valid : goal.returns-clause-valid
returns-clause-valid c = subst (λ (cs : List ℕ). AreCapacities cs) (sym c.all_capacities.ensures) (capacities_kept c.args.queues.now c.requires)

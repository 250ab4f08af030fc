-- Invariants of the loops of `all_lowered`.
use Rattle.std.proofs.Common.{take}
use Rattle.psi_net_model.specs.Made.{AreMade}
use Rattle.psi_net_model.proofs.LoweredLemmas.{capacities, function, upset_pair}
use Rattle.psi_net_model.proofs.building.all_lowered.Given as goal

abbrev pub invariant-loop-event : goal.invariant-loop-event
invariant-loop-event l = AreMade capacities function upset_pair l.caps (take l.event-index l.events) l.made.items

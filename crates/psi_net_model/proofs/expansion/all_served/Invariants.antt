-- Invariants of the loops of `all_served`.
use Rattle.std.proofs.Common.{◌≡◌, take}
use Rattle.std.specs.List.{flat_map}
use Rattle.psi_net_model.specs.Expansion.{expanded}
use Rattle.psi_net_model.proofs.expansion.all_served.Given as goal

abbrev pub invariant-loop-event : goal.invariant-loop-event
invariant-loop-event l = l.all.items ≡ flat_map (expanded l.queues) (take l.event-index l.events)

-- Invariants of the loops of `rates`.
use Rattle.std.proofs.Common.{◌≡◌, map, take}
use Rattle.psi_net_model.proofs.building.rates.Given as goal

abbrev pub invariant-loop-event : goal.invariant-loop-event
invariant-loop-event l = l.rates.items ≡ map (λ e. e.rate) (take l.event-index l.events)

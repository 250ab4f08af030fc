-- Invariants of the loops of `push_passing`.
use Rattle.std.proofs.Common.{◌≡◌, ◌++◌, map}
use Rattle.std.specs.List.{flat_map}
use Rattle.psi_state.specs.State.{numbers_from}
use Rattle.psi_net_model.specs.Expansion.{expanded}
use Rattle.psi_net_model.specs.Generated.{passing_event}
use Rattle.psi_net_model.proofs.generating.push_passing.Given as goal

abbrev pub invariant-loop-place : goal.invariant-loop-place
invariant-loop-place l = l.events.items ≡ l.fn.events.items ++ flat_map (expanded l.queues) (map passing_event (numbers_from 1 l.place))

-- Invariants of the loops of `all_queues`.
use Rattle.std.proofs.Common.{◌≡◌, map}
use Rattle.psi_state.specs.State.{numbers_from}
use Rattle.psi_net_model.specs.Generated.{nth_queue}
use Rattle.psi_net_model.proofs.generating.all_queues.Given as goal

abbrev pub invariant-loop-place : goal.invariant-loop-place
invariant-loop-place l = l.queues.items ≡ map (nth_queue l.number) (numbers_from 1 l.place)

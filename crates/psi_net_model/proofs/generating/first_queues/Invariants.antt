-- Invariants of the loops of `first_queues`.
use Rattle.std.proofs.Common.{◌≡◌}
use Rattle.psi_state.specs.State.{numbers_from}
use Rattle.psi_net_model.proofs.generating.first_queues.Given as goal

abbrev pub invariant-loop-queue : goal.invariant-loop-queue
invariant-loop-queue l = l.queues ≡ numbers_from 0 l.queue

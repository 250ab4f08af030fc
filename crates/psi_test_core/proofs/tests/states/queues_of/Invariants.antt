-- Invariants of the loops of `states::queues_of`.
use Rattle.std.proofs.Common.{◌≡◌, take}
use Rattle.psi_test_core.proofs.tests.states.queues_of.Given as goal

abbrev pub invariant-loop-i : goal.invariant-loop-i
invariant-loop-i l = l.queues ≡ take l.i l.numbers

-- The plan keeps its capacities.
use Rattle.std.proofs.Common.{◌≡◌}
use Rattle.psi_net_model.specs.Network.{caps_of}
use Rattle.psi_test_memory.proofs.sampling.call_couple.Given as goal

abbrev pub invariant-loop-place : goal.invariant-loop-place
invariant-loop-place g l = l.plan.system.caps ≡ caps_of l.net

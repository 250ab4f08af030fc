-- Answers in the proof of `Queues::empty`.
use Rattle.std.specs.Prelude.{refl}
use Rattle.std.proofs.Common.{arith}
use Rattle.psi_state.proofs.ArraysLemmas.{slice_index-zeros}
use Rattle.psi_state.proofs.queues.Queues.empty.Goals as goal

pub invariant_of-result : goal.invariant_of-result
invariant_of-result c = (omega arith, refl, refl, λ i. omega (arith, slice_index-zeros 32 i))

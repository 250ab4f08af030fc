-- Answers in the proof of `State::zero`.
use Rattle.std.proofs.Common.{refl, arith}
use Rattle.std.proofs.lemmas.List.{drop-replicate, take-replicate}
use Rattle.psi_state.proofs.ArraysLemmas.{slice_index-zeros}
use Rattle.psi_state.proofs.state.State.zero.Goals as goal

pub invariant_of-result : goal.invariant_of-result
invariant_of-result c = (
  c.requires.some,
  c.requires.few,
  refl,
  drop-replicate c.args.len 32 0,
  λ i. omega (arith, slice_index-zeros 32 i),
)

pub returns : goal.returns
returns c = take-replicate c.args.len 32 0 c.requires.few

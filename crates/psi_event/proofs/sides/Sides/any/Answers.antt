-- Answers in the proof of `Sides::any`.
use Rattle.std.proofs.Common.{refl}
use Rattle.std.proofs.lemmas.List.{drop-replicate, take-replicate}
use Rattle.psi_event.specs.declared.sides.Side.TheVariants.{Any}
use Rattle.psi_event.proofs.sides.Sides.any.Goals as goal

pub invariant_of-result : goal.invariant_of-result
invariant_of-result c = (
  c.requires,
  refl,
  drop-replicate c.args.queues 32 Any,
)

pub returns : goal.returns
returns c = take-replicate c.args.queues 32 Any c.requires

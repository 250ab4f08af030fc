-- The images so far, and the states that are still to come.
use Rattle.std.proofs.Common.{◌≡◌}
use Rattle.std.specs.Prelude.{vec_capacity}
use Rattle.psi_path_table.specs.Inner.FillingKept.{IsFilling}
use Rattle.psi_path_table.proofs.filling.push_images.Given as goal

abbrev pub invariant-loop-state : goal.invariant-loop-state
invariant-loop-state g l = record {
  filling : IsFilling (g.E.EventLaw.capacities l.event) (g.E.EventLaw.function l.event) l.fn.ranks.items l.ranks.items l.state-iterator;
  room : vec_capacity l.ranks ≡ vec_capacity l.fn.ranks;
}

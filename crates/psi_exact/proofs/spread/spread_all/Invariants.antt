-- Invariants of the loops of `spread_all`.
use Rattle.std.proofs.Common.{◌≡◌, length, drop}
use Rattle.psi_state.specs.State.{all_states}
use Rattle.psi_exact.specs.Alike.{AreFilled, IsFront}
use Rattle.psi_exact.proofs.spread.spread_all.Given as goal

abbrev pub invariant-loop-place : goal.invariant-loop-place
invariant-loop-place g l = record {
  front : IsFront l.span l.place l.front;
  stride : l.stride ≡ length (all_states (drop l.place (g.E.EventLaw.capacities l.e)));
  filled : AreFilled (g.E.EventLaw.capacities l.e) (g.E.EventLaw.function l.e) l.span l.place l.ranks;
}

-- Answers in the proof of `moves_alike`.
use Rattle.std.proofs.Common.{rules}
use Rattle.psi_exact.proofs.VisitsLemmas.{visits-begin, visits-first, visits-next, visits-end}
use Rattle.psi_exact.proofs.AlikeLemmas.{alike-moves}
use Rattle.psi_exact.proofs.alike.moves_alike.Goals as goal

pub loop-state-init : goal.loop-state-init
loop-state-init g c = record {
  visited = visits-begin _ _ _ _ _ c.into_iter-state-iterator.ensures.into_iter_gives c.states-state-items.ensures.states c.whole.ensures;
}

pub is_one_move-requires-clause-state : goal.is_one_move-requires-clause-state
is_one_move-requires-clause-state g c = visits-first _ _ _ _ _ c.loop-state.invariant.visited c.in-Some.ensures.steps

pub loop-state-preserved : goal.loop-state-preserved
loop-state-preserved g c = record {
  visited = visits-next _ _ _ _ _ _ c.loop-state.invariant.visited c.in-Some.ensures.steps (c.is_one_move.ensures (search rules)) (λ y within one. one);
}

pub returns : goal.returns
returns g c = λ yes.
    alike-moves (g.E.EventLaw.capacities c.args.e.now) (g.E.EventLaw.function c.args.e.now) c.args.span.now c.requires
    (visits-end _ _ _ c.loop-state.invariant.visited c.in-None.ensures.steps.0)

-- Answers in the proof of `put_states`.
use Rattle.std.proofs.Common.{◌≡◌, ◌∙◌, List, ℕ, sym, subst, inl, inr, arith, take}
use Rattle.std.proofs.lemmas.List.{take_all}
use Rattle.std.proofs.lemmas.Grind.{common_steps}
use Rattle.psi_closed_arcs.specs.Held.{Listed}
use Rattle.psi_closed.specs.Closed.{all_arcs}
use Rattle.psi_closed.proofs.ArcsLemmas.{arc}
use Rattle.psi_closed.proofs.StatesLemmas.{all_arcs-none, all_arcs-next, In-at}
use Rattle.psi_closed.proofs.arcs.put_states.Goals as goal

pub loop-state-init : goal.loop-state-init
loop-state-init c = grind (arith, common_steps, arc, all_arcs-none)

pub put_state-requires : goal.put_state-requires
put_state-requires c = grind (arith, common_steps, In-at)

pub loop-state-preserved : goal.loop-state-preserved
loop-state-preserved c =
    let kept = c.loop-state.invariant in
    let item = c.state-item.result in
    record {
      levels = c.put_state.ensures.levels ∙ kept.levels;
      total = c.put_state.ensures.total ∙ kept.total;
      arcs = λ q s v. (let next = all_arcs-next c.args.states.now c.loop-state.state-index item item q s v c.loop-state-test.true c.state-item.is in (
        λ listed. next.1 (elim ((c.put_state.ensures.arcs q s v).0 listed) [ inl old ↦ inl ((kept.arcs q s v).0 old) | inr own ↦ inr own ]),
        λ listed. (c.put_state.ensures.arcs q s v).1 (elim (next.0 listed) [ inl old ↦ inl ((kept.arcs q s v).1 old) | inr own ↦ inr own ]),
      ));
    }

pub returns-clause-arcs : goal.returns-clause-arcs
returns-clause-arcs c = λ q s v.
    (let e : take c.loop-state.state-index c.args.states.now ≡ c.args.states.now = take_all c.loop-state.state-index c.args.states.now (omega arith) in (
      λ listed. subst (λ (xs : List (List ℕ)). Listed (all_arcs xs) q s v) e ((c.loop-state.invariant.arcs q s v).0 listed),
      λ listed. (c.loop-state.invariant.arcs q s v).1 (subst (λ (xs : List (List ℕ)). Listed (all_arcs xs) q s v) (sym e) listed),
    ))

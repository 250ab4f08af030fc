-- Answers in the proof of `put_state`.
use Rattle.std.proofs.Common.{◌<◌, ◌∙◌, inl, inr, length, arith}
use Rattle.std.proofs.lemmas.Grind.{common_steps}
use Rattle.psi_closed.proofs.DiagramLemmas.{customers-upto}
use Rattle.psi_closed.proofs.StatesLemmas.{customers-next, earlier-next, earlier-stays, earlier-cases}
use Rattle.psi_closed.proofs.arcs.put_state.Goals as goal

pub insert-requires-clause-sum : goal.insert-requires-clause-sum
insert-requires-clause-sum c = grind (arith, common_steps, customers-upto)

pub overflow_add-before : goal.overflow_add-before
overflow_add-before c = grind (arith, common_steps, customers-upto)

pub loop-level-preserved : goal.loop-level-preserved
loop-level-preserved c =
    let state = c.args.state.now in
    let level = c.loop-level.level in
    let kept = c.loop-level.invariant in
    let place : level < length state = omega arith in
    record {
      levels = c.insert.ensures.levels ∙ kept.levels;
      total = c.insert.ensures.total ∙ kept.total;
      before = customers-next state level c.loop-level.before c.get-value.result place kept.before c.get-value.ensures;
      arcs = λ q s v. (
        λ listed. elim ((c.insert.ensures.arcs q s v).0 listed) [
          | inl old ↦ elim ((kept.arcs q s v).0 old) [ inl first ↦ inl first | inr early ↦ inr (earlier-stays state level q s v early) ]
          | inr this ↦ inr (earlier-next state level c.loop-level.before c.get-value.result q s v place kept.before c.get-value.ensures this)
        ],
        λ either. (c.insert.ensures.arcs q s v).1 (elim either [
          | inl first ↦ inl ((kept.arcs q s v).1 (inl first))
          | inr early ↦ elim (earlier-cases state level c.loop-level.before c.get-value.result q s v kept.before c.get-value.ensures early) [
            | inl before ↦ inl ((kept.arcs q s v).1 (inr before))
            | inr this ↦ inr this
          ]
        ]),
      );
    }

pub returns-clause-arcs : goal.returns-clause-arcs
returns-clause-arcs c = λ q s v. (
  λ listed. elim ((c.loop-level.invariant.arcs q s v).0 listed) [ inl old ↦ inl old | inr early ↦ inr early.own ],
  λ either. (c.loop-level.invariant.arcs q s v).1 (elim either [
    | inl old ↦ inl old
    | inr own ↦ (let place = own.place in inr (record { place = omega arith; own = own }))
  ]),
)

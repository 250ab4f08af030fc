-- Answers in the proof of `past_end`.
use Rattle.std.proofs.Common.{◌-◌, inl, inr, subst, arith}
use Rattle.std.proofs.lemmas.Bool.{cases_eq}
use Rattle.psi_closed_arcs.specs.Held.{Listed}
use Rattle.psi_closed_arcs.proofs.PuttingLemmas.{none-left}
use Rattle.psi_closed_arcs.proofs.RowsLemmas.{arc_of}
use Rattle.psi_closed_arcs.proofs.spans.past_end.Goals as goal

pub loop-before-init : goal.loop-before-init
loop-before-init c =
    let value = c.total-total.ensures.value in
    record {
      past = λ s v listed. (let sum = (c.total-total.ensures.ranged (arc_of c.args.level s v) listed).sum in omega arith);
      most = omega arith;
    }

pub loop-before-preserved : goal.loop-before-preserved
loop-before-preserved c =
    let test = c.loop-before-test.true in
    let most = c.loop-before.invariant.most in
    record {
      past = λ s v listed. (let less = c.loop-before.invariant.past s v listed in
          elim (cases_eq s (c.loop-before.before - 1)) [
            | inl same ↦ absurd (none-left c.args.of.now.arcs c.args.level (c.loop-before.before - 1) c.row.result c.row.ensures.arcs (c.is_none.ensures.none c.if-not-is_none.false) v
                (subst (λ k. Listed c.args.of.now.arcs c.args.level k v) same listed))
            | inr other ↦ omega arith
          ]);
      most = omega arith;
    }

pub returns-then-not-is_none-clause-past : goal.returns-then-not-is_none-clause-past
returns-then-not-is_none-clause-past c s v listed =
    let less = c.loop-before.invariant.past s v listed in
    let test = c.loop-before-test.true in
    omega arith

pub returns-clause-past : goal.returns-clause-past
returns-clause-past c s v listed = (let less = c.loop-before.invariant.past s v listed in let test = c.loop-before-test.false in omega arith)

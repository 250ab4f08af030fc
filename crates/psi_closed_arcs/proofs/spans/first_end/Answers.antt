-- Answers in the proof of `first_end`.
use Rattle.std.proofs.Common.{inl, inr, subst, arith}
use Rattle.std.proofs.lemmas.Bool.{cases_eq}
use Rattle.psi_closed_arcs.specs.Held.{Listed}
use Rattle.psi_closed_arcs.proofs.PuttingLemmas.{none-left}
use Rattle.psi_closed_arcs.proofs.spans.first_end.Goals as goal

pub loop-before-preserved : goal.loop-before-preserved
loop-before-preserved c s v listed =
    let least = c.loop-before.invariant s v listed in
    elim (cases_eq s c.loop-before.before) [
      | inl same ↦ absurd (none-left c.args.of.now.arcs c.args.level c.loop-before.before c.row.result c.row.ensures.arcs (c.is_none.ensures.none c.if-not-is_none.false) v
          (subst (λ k. Listed c.args.of.now.arcs c.args.level k v) same listed))
      | inr other ↦ omega arith
    ]

pub returns-clause-before : goal.returns-clause-before
returns-clause-before c s v listed = (let least = c.loop-before.invariant s v listed in let test = c.loop-before-test.false in omega arith)

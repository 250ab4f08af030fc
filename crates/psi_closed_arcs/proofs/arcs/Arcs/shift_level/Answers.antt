-- Answers in the proof of `Arcs::shift_level`.
use Rattle.std.proofs.Common.{true, ◌↔◌, sym, ◌∙◌, subst, arith}
use Rattle.std.proofs.lemmas.Grind.{common_steps}
use Rattle.psi_closed_arcs.specs.declared.sums.Sums.{Sums}
use Rattle.psi_closed_arcs.specs.Sums.{Leads}
use Rattle.psi_closed_arcs.specs.Held.{Listed}
use Rattle.psi_closed_arcs.specs.Inner.MarksKept.{Gives}
use Rattle.psi_closed_arcs.proofs.RowsLemmas.{arc_of, read-row}
use Rattle.psi_closed_arcs.proofs.PuttingLemmas.{put-more, put-all, iff-trans, gives-near}
use Rattle.psi_closed_arcs.proofs.arcs.Arcs.shift_level.Goals as goal

pub loop-before-preserved : goal.loop-before-preserved
loop-before-preserved c = record {
  levels = c.put.ensures.levels ∙ c.loop-before.invariant.levels;
  total = c.put.ensures.total ∙ c.loop-before.invariant.total;
  done = put-more c.args.level (λ s v. Gives (Listed c.args.self.now.arcs) c.args.reach.now c.args.from c.args.to c.args.level s v) c.args.self.now.arcs c.loop-before.self.arcs c.put.new.self.arcs c.widened-wide.result.first c.loop-before.before
      c.loop-before.invariant.done c.loop-before.auto.before (λ v. iff-trans (c.put.ensures.own v) (subst (λ (x : Sums). Leads x c.loop-before.before v ↔ Gives (Listed c.args.self.now.arcs) c.args.reach.now c.args.from c.args.to c.args.level c.loop-before.before v) (sym (read-row c.give_rows.new.reach.next.items c.loop-before.before c.index-row.result.now (omega arith) c.index-row.ensures)) (c.give_rows.ensures.arcs c.loop-before.before v c.loop-before.auto.before (let test = c.loop-before-test.true in omega arith)))) c.put.ensures.others;
}

pub put-requires-clause-ranged : goal.put-requires-clause-ranged
put-requires-clause-ranged c t small given = grind (arith, common_steps, true, read-row)

pub returns-clause-own : goal.returns-clause-own
returns-clause-own c =
    let done = c.loop-before-test.false in
    let value = c.total-total.ensures.value in
    let first = c.widened-wide.ensures.first in
    let end = c.widened-wide.ensures.end in
    let inside = c.requires.span.inside in
    put-all c.args.level (λ s v. Gives (Listed c.args.self.now.arcs) c.args.reach.now c.args.from c.args.to c.args.level s v) c.args.self.now.arcs c.loop-before.self.arcs c.widened-wide.result.first c.loop-before.before c.loop-before.invariant.done
    (λ s v member. (let within = c.requires.span.each s v member in let above = within.0 in let less = within.1 in (omega arith, omega arith)))
    (λ s v given. (let near = gives-near c.args.self.now.arcs c.args.reach.now c.args.from c.args.to c.args.level c.args.self.now.total c.args.span c.requires.span
    (λ r u member. (c.total-total.ensures.ranged (arc_of c.args.level r u) member).sum) c.requires.shiftable s v given in
    let above = near.0 in
    let less = near.1.0 in
    let few = near.1.1 in
    (omega arith, omega arith)))

pub returns-clause-others : goal.returns-clause-others
returns-clause-others c l s v other = c.loop-before.invariant.done.rest l s v (λ e above less. other e)

-- Answers in the proof of `Arcs::keep_level`.
use Rattle.std.proofs.Common.{◌∙◌, arith}
use Rattle.psi_closed_arcs.specs.Held.{Listed}
use Rattle.psi_closed_arcs.specs.Inner.MarksKept.{Keeps}
use Rattle.psi_closed_arcs.proofs.RowsLemmas.{arc_of}
use Rattle.psi_closed_arcs.proofs.PuttingLemmas.{put-more, put-all, iff-trans, keeps-at}
use Rattle.psi_closed_arcs.proofs.arcs.Arcs.keep_level.Goals as goal

pub loop-before-preserved : goal.loop-before-preserved
loop-before-preserved c = record {
  levels = c.put.ensures.levels ∙ c.loop-before.invariant.levels;
  total = c.put.ensures.total ∙ c.loop-before.invariant.total;
  done = put-more c.args.level (λ s v. Keeps (Listed c.args.self.now.arcs) c.args.marks.now c.args.level s v) c.args.self.now.arcs c.loop-before.self.arcs c.put.new.self.arcs 0 c.loop-before.before
      c.loop-before.invariant.done (omega arith) (λ v. iff-trans (c.put.ensures.own v) (iff-trans (c.kept-row.ensures.arcs v) (keeps-at (Listed c.loop-before.self.arcs) (Listed c.args.self.now.arcs) c.args.marks.now c.args.level c.loop-before.before v (c.loop-before.invariant.done.rest c.args.level c.loop-before.before v (λ _ above less. omega arith))))) c.put.ensures.others;
}

pub returns-clause-own : goal.returns-clause-own
returns-clause-own c =
    let end = c.loop-before-test.false in
    let same = c.total-total.ensures.value in
    put-all c.args.level (λ s v. Keeps (Listed c.args.self.now.arcs) c.args.marks.now c.args.level s v) c.args.self.now.arcs c.loop-before.self.arcs 0 c.loop-before.before c.loop-before.invariant.done
    (λ s v member. (let sum = (c.total-total.ensures.ranged (arc_of c.args.level s v) member).sum in (omega arith, omega arith))) (λ s v given. (let sum = (c.total-total.ensures.ranged (arc_of c.args.level s v) given.there).sum in (omega arith, omega arith)))

pub returns-clause-others : goal.returns-clause-others
returns-clause-others c l s v other = c.loop-before.invariant.done.rest l s v (λ e above less. other e)

-- Answers in the proof of `Arcs::fill`.
use Rattle.std.proofs.Common.{◌∙◌, arith}
use Rattle.psi_closed_arcs.specs.Held.{IsAny}
use Rattle.psi_closed_arcs.proofs.RowsLemmas.{arc_of}
use Rattle.psi_closed_arcs.proofs.PuttingLemmas.{done-more, done-all}
use Rattle.psi_closed_arcs.proofs.arcs.Arcs.fill.Goals as goal

pub loop-level-preserved : goal.loop-level-preserved
loop-level-preserved c =
    let test = c.loop-level-test.true in
    let levels = c.levels-level-end.ensures.value in
    let count = c.requires in
    let total = c.loop-level.invariant.total in
    record {
      levels = c.fill_queue.ensures.levels ∙ c.loop-level.invariant.levels;
      total = c.fill_queue.ensures.total ∙ c.loop-level.invariant.total;
      done = done-more 0 (IsAny c.args.caps.now c.args.self.now.total) c.args.self.now.arcs c.loop-level.self.arcs c.fill_queue.new.self.arcs c.loop-level.level
          c.loop-level.invariant.done (omega arith)
          (λ s v. (let own = c.fill_queue.ensures.own s v in let most = c.get.ensures in (
            λ member. (let both = own.0 member in let few = both.0 in let sum = both.1 in record { place = omega arith; own = omega arith; sum = omega arith }),
            λ any. (let few = any.own in let sum = any.sum in own.1 (omega arith, omega arith)),
          )))
          c.fill_queue.ensures.others;
    }

pub returns-clause-arcs : goal.returns-clause-arcs
returns-clause-arcs c =
    let test = c.loop-level-test.false in
    let levels = c.levels-level-end.ensures.value in
    let count = c.requires in
    done-all (IsAny c.args.caps.now c.args.self.now.total) c.args.self.now.arcs c.loop-level.self.arcs c.loop-level.level c.loop-level.invariant.done
    (λ l s v member. (let place = (c.levels-level-end.ensures.ranged (arc_of l s v) member).place in omega arith)) (λ l s v any. (let place = any.place in omega arith))

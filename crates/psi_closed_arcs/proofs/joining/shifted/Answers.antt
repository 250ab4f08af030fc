-- Answers in the proof of `shifted`.
use Rattle.std.proofs.Common.{◌+◌, sym, ◌∙◌, arith}
use Rattle.std.proofs.lemmas.Bool.{true≢false}
use Rattle.psi_closed_arcs.specs.Held.{Listed}
use Rattle.psi_closed_arcs.proofs.RowsLemmas.{arc_of}
use Rattle.psi_closed_arcs.proofs.MarkedLemmas.{shifts-both}
use Rattle.psi_closed_arcs.proofs.joining.shifted.Goals as goal

pub returns-in-Some : goal.returns-in-Some
returns-in-Some c =
    let away = c.one_past-in-Some.ensures.value in
    let come = c.one_past-in-Some-2.ensures.value in
    let gone = c.one_past.ensures.value in
    let came = c.one_past-2.ensures.value in
    let source = c.in-Some.ensures.1 in
    let both = shifts-both (Listed c.args.of.now.arcs) c.args.marks.now c.args.at.now.from c.args.at.now.to c.args.of.now.total c.args.at.now.level c.args.before c.in-Some.sum c.kept.result c.turned.result
    (omega arith) c.kept.ensures.arcs c.kept.ensures.ranged (λ t u small less e. c.turned.ensures.moved t u small less (omega arith)) (λ t less. c.turned.ensures.low t (omega arith))
    (λ t small more. c.turned.ensures.high t small (omega arith)) c.requires.shiftable c.total-total.ensures.small in
    record { arcs = both.0; ranged = both.1 }

pub returns-in-None-clause-arcs : goal.returns-in-None-clause-arcs
returns-in-None-clause-arcs c v =
    let gone = c.one_past.ensures.value in
    let came = c.one_past-2.ensures.value in
    let total = c.total-total.ensures.value in (
      λ leads. absurd (true≢false (sym leads.there ∙ c.none.ensures (c.args.before + v) leads.small)),
      λ shifts. absurd (let sum = (c.total-total.ensures.ranged (arc_of c.args.at.now.level shifts.sum shifts.own) shifts.keeps.there).sum in
          let sums = shifts.shifted.sums in
          c.in-None.ensures shifts.sum (omega arith) (omega arith)),
    )

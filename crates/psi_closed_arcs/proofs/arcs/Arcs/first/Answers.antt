-- Answers in the proof of `Arcs::first`.
use Rattle.std.proofs.Common.{◌+◌, ◌-◌, sym, subst, arith}
use Rattle.psi_closed_arcs.specs.Held.{IsFirst}
use Rattle.psi_closed_arcs.proofs.PuttingLemmas.{first-is}
use Rattle.psi_closed_arcs.proofs.arcs.Arcs.first.Goals as goal

pub returns-in-Some-clause-value : goal.returns-in-Some-clause-value
returns-in-Some-clause-value c =
    let told = c.in-Some.ensures in
    let value = c.total-total.ensures.value in
    let few = c.total-total.ensures.small in
    subst (λ b. IsFirst c.args.self.now.arcs c.args.level c.args.before (c.in-Some.sum - c.args.before) b) (sym c.is_some.ensures)
    (first-is c.args.self.now.arcs c.args.level c.args.before c.total-total.result c.in-Some.sum c.row-row.result c.next_sum-in-Some.result c.row-row.ensures.arcs
    (λ t less given. (let range = c.row-row.ensures.ranged t less given in let high = range.1 in (range.0, omega arith))) (omega arith) told.0 told.1.0 told.1.1.0 told.1.1.1 c.next_sum-in-Some.ensures)

pub returns-in-None-clause-value : goal.returns-in-None-clause-value
returns-in-None-clause-value c v listed =
    let led = (c.row-row.ensures.arcs v).1 listed in
    let range = c.row-row.ensures.ranged (c.args.before + v) led.small led.there in
    let value = c.total-total.ensures.value in
    let high = range.1 in
    c.in-None.ensures (c.args.before + v) (omega arith) (omega arith) led.there

-- Answers in the proof of `exits`.
use Rattle.std.proofs.Common.{arith}
use Rattle.std.proofs.lemmas.Bool.{not-true}
use Rattle.psi_closed_arcs.proofs.MarkedLemmas.{exits-some}
use Rattle.psi_closed_arcs.proofs.reach.exits.Goals as goal

pub returns-clause-some : goal.returns-clause-some
returns-clause-some c told =
    let found = c.is_none.ensures.some (not-true c.is_none.result told) in
    exits-some c.args.of.now.arcs c.args.level c.args.before c.args.window c.args.marks.now c.windowed.result c.and.result c.windowed.ensures.arcs
    (λ u less given. (let range = c.windowed.ensures.ranged u less given in let high = range.1 in let few = c.windowed.ensures.small in (range.0, omega arith)))
    c.and.ensures found.0 found.1 found.2

-- Answers in the proof of `Marks::mark`.
use Rattle.psi_closed_arcs.proofs.MarkedLemmas.{behind-begun, ahead-begun}
use Rattle.psi_closed_arcs.proofs.marks.Marks.mark.Goals as goal

pub mark_before-requires-clause-begin : goal.mark_before-requires-clause-begin
mark_before-requires-clause-begin c =
    let of = c.args.of.now in
    behind-begun of.arcs c.args.rule of.levels of.total c.requires.stretch.sized.ranged c.requires.stretch.sized.small c.args.stretch.low c.args.stretch.start c.fill.new.marks c.args.first
    c.fill.ensures c.requires.first

pub mark_after-requires-clause-begin : goal.mark_after-requires-clause-begin
mark_after-requires-clause-begin c =
    let of = c.args.of.now in
    ahead-begun of.arcs c.args.rule of.levels of.total c.requires.stretch.sized.ranged c.requires.stretch.sized.small c.args.stretch.stop c.args.stretch.high c.fill-2.new.marks c.args.last
    c.fill-2.ensures c.requires.last

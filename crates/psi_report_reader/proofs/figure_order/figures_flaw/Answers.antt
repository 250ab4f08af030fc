-- Answers in the proof of `figure_order::figures_flaw`.
use Rattle.std.proofs.Common.{arith, ◌+◌, ◌∙◌, sym}
use Rattle.psi_report_reader.proofs.JudgeLemmas.{all-behind, figures-more, figures-here}
use Rattle.psi_report_reader.proofs.figure_order.figures_flaw.Goals as goal

pub loop-place-preserved : goal.loop-place-preserved
loop-place-preserved c =
    let may = rw (all-behind c.args.figures.now (c.loop-place.place + 1)) at c.may_stand.ensures in
    figures-more c.args.met c.args.figures.now c.loop-place.place c.index-figures-place.result c.index-figures-place-in-loop-place.result (omega arith) (omega arith)
    c.index-figures-place.is c.index-figures-place-in-loop-place.is (sym may ∙ c.if-not-may_stand.false) ∙ c.loop-place.invariant

pub returns-then-not-may_stand : goal.returns-then-not-may_stand
returns-then-not-may_stand c =
    let may = rw (all-behind c.args.figures.now (c.loop-place.place + 1)) at c.may_stand.ensures in
    figures-here c.args.met c.args.figures.now c.loop-place.place c.index-figures-place.result c.index-figures-place-in-loop-place.result (omega arith) (omega arith)
    c.index-figures-place.is c.index-figures-place-in-loop-place.is (sym may ∙ c.if-not-may_stand.true) ∙ c.loop-place.invariant

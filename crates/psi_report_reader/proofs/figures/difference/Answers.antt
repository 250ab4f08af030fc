-- Answers in the proof of `figures::difference`.
use Rattle.std.proofs.Common.{arith, ◌∙◌}
use Rattle.psi_report_reader.proofs.FigureLemmas.{difference-at-end}
use Rattle.psi_report_reader.proofs.figures.difference.Goals as goal

pub returns : goal.returns
returns c = difference-at-end c.args.sums.now c.args.others.now c.loop-place.place c.min-both.result (omega arith) (λ e. c.if-sums-others.false e) c.min-both.ensures ∙ c.loop-place.invariant

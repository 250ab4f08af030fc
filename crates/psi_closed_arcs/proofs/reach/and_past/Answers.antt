-- Answers in the proof of `and_past`.
use Rattle.std.proofs.Common.{sym, ◌∙◌, arith}
use Rattle.psi_closed_arcs.proofs.MarkedLemmas.{enters-kept, enters-skip, enters-more}
use Rattle.psi_closed_arcs.proofs.reach.and_past.Goals as goal

pub returns-then-not-holds : goal.returns-then-not-holds
returns-then-not-holds c t small before = (
  λ given. enters-kept c.args.of.now.arcs c.args.level c.args.window c.args.marks.now c.args.past c.args.past c.args.past c.args.before t (before.0 given),
  λ below. before.1 (enters-skip c.args.of.now.arcs c.args.level c.args.window c.args.marks.now c.args.past c.args.past c.args.past c.args.before (sym c.holds.ensures ∙ c.if-not-holds.true) t below),
)

pub returns : goal.returns
returns c t small before =
    enters-more c.args.of.now.arcs c.args.level c.args.window c.args.marks.now c.windowed.result c.args.past c.or.result c.args.before (sym c.holds.ensures ∙ c.if-not-holds.false)
    c.windowed.ensures.arcs (λ u less given. (let range = c.windowed.ensures.ranged u less given in let high = range.1 in let few = c.requires.small in (range.0, omega arith)))
    c.or.ensures t small before

-- Answers in the proof of `Marks::mark_between`.
use Rattle.std.proofs.Common.{arith}
use Rattle.psi_closed_arcs.proofs.MarkedLemmas.{whole-before, whole-after}
use Rattle.psi_closed_arcs.proofs.marks.Marks.mark_between.Goals as goal

pub mark-requires-clause-first : goal.mark-requires-clause-first
mark-requires-clause-first c l s v above below listed =
    whole-before c.args.of.now.arcs c.args.rule c.args.of.now.levels c.args.of.now.total c.requires.stretch.sized.ranged c.requires.stretch.sized.small c.requires.whole c.all-all.result c.all-all.ensures
    l (λ k u less small. c.requires.before k u (omega arith) small) s v listed

pub mark-requires-clause-last : goal.mark-requires-clause-last
mark-requires-clause-last c l s v above below listed =
    whole-after c.args.of.now.arcs c.args.rule c.args.of.now.levels c.args.of.now.total c.requires.stretch.sized.ranged c.requires.stretch.sized.small c.requires.whole c.all-all.result c.all-all.ensures
    l (λ k u less small. c.requires.past k u (omega arith) small) s v listed

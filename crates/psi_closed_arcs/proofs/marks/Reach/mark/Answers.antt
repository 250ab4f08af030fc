-- Answers in the proof of `Reach::mark`.
use Rattle.std.proofs.Common.{arith}
use Rattle.psi_closed_arcs.specs.Joining.{IsChanging, IsShort, IsFull}
use Rattle.psi_closed_arcs.proofs.MarkedLemmas.{tells-between}
use Rattle.psi_closed_arcs.proofs.marks.Reach.mark.Goals as goal

pub mark_between-requires-clause-before : goal.mark_between-requires-clause-before
mark_between-requires-clause-before c l v less small =
    (c.changing-changing.ensures l v small).1 (record { source = λ e. absurd (omega arith); target = λ e. absurd (omega arith) })

pub mark_between-requires-clause-past : goal.mark_between-requires-clause-past
mark_between-requires-clause-past c l v less small =
    (c.changing-changing.ensures l v small).1 (record { source = λ e. absurd (omega arith); target = λ e. absurd (omega arith) })

pub mark_between-requires-2-clause-before : goal.mark_between-requires-2-clause-before
mark_between-requires-2-clause-before c l v less small = (c.short-short.ensures l v small).1 (λ e. absurd (omega arith))

pub mark_between-requires-2-clause-past : goal.mark_between-requires-2-clause-past
mark_between-requires-2-clause-past c l v less small = (c.short-short.ensures l v small).1 (λ e. absurd (omega arith))

pub mark_between-requires-3-clause-before : goal.mark_between-requires-3-clause-before
mark_between-requires-3-clause-before c l v less small = (c.full-full.ensures l v small).1 (λ e. absurd (omega arith))

pub mark_between-requires-3-clause-past : goal.mark_between-requires-3-clause-past
mark_between-requires-3-clause-past c l v less small = (c.full-full.ensures l v small).1 (λ e. absurd (omega arith))

pub returns-clause-changing : goal.returns-clause-changing
returns-clause-changing c =
    tells-between c.args.of.now.arcs c.args.of.now.levels c.args.of.now.total c.total-total.ensures.ranged c.total-total.ensures.small c.args.from c.args.to
    c.min-low.result c.max-high.result c.min-low.ensures c.max-high.ensures
    _ _ (IsChanging c.args.from c.args.k c.args.to c.args.room) c.mark_between.ensures.marked c.mark_between.ensures.rule c.changing-changing.ensures

pub returns-clause-short : goal.returns-clause-short
returns-clause-short c =
    tells-between c.args.of.now.arcs c.args.of.now.levels c.args.of.now.total c.total-total.ensures.ranged c.total-total.ensures.small c.args.from c.args.to
    c.min-low.result c.max-high.result c.min-low.ensures c.max-high.ensures
    _ _ (IsShort c.args.from c.args.k) c.mark_between-2.ensures.marked c.mark_between-2.ensures.rule c.short-short.ensures

pub returns-clause-full : goal.returns-clause-full
returns-clause-full c =
    tells-between c.args.of.now.arcs c.args.of.now.levels c.args.of.now.total c.total-total.ensures.ranged c.total-total.ensures.small c.args.from c.args.to
    c.min-low.result c.max-high.result c.min-low.ensures c.max-high.ensures
    _ _ (IsFull c.args.to c.args.room) c.mark_between-3.ensures.marked c.mark_between-3.ensures.rule c.full-full.ensures

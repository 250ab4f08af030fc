-- Answers in the proof of `mark_before`.
use Rattle.std.proofs.Common.{◌≡◌, [], subst, arith}
use Rattle.psi_closed_arcs.specs.Held.{Listed}
use Rattle.psi_closed_arcs.specs.Joining.{Only}
use Rattle.psi_closed_arcs.specs.Windows.{Allows, MarkBefore}
use Rattle.psi_closed_arcs.proofs.RowsLemmas.{read-default}
use Rattle.psi_closed_arcs.proofs.MarkedLemmas.{behind-next}
use Rattle.psi_closed_arcs.proofs.reach.mark_before.Goals as goal

pub loop-level-preserved : goal.loop-level-preserved
loop-level-preserved c =
    let of = c.args.of.now in
    let few = c.requires.stretch.sized.few in
    behind-next of.arcs c.args.rule.now of.levels of.total c.requires.stretch.sized.ranged c.requires.stretch.sized.small c.args.stretch.low c.loop-level.level c.window.result c.loop-level.marks
    _ c.marks_past-past.result (omega arith) (omega arith) (read-default c.loop-level.marks c.loop-level.level (record { words = [] }) (omega arith)) c.window.ensures
    c.marks_past-past.ensures c.loop-level.invariant

pub returns : goal.returns
returns c =
    let of = c.args.of.now in
    let test = c.loop-level-test.false in
    let order = c.requires.stretch.start_high in
    let end = c.loop-level.auto.level-end in
    let same : c.loop-level.level ≡ c.args.stretch.high = omega arith in
    subst (λ k. MarkBefore (Listed of.arcs) (Only (Listed of.arcs) (Allows c.args.rule.now)) c.args.stretch.low k c.loop-level.marks) same c.loop-level.invariant

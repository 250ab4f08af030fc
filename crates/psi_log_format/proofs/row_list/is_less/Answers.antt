-- Answers in the proof of `row_list::is_less`.
use Rattle.std.proofs.Common.{sym, ◌∙◌, arith}
use Rattle.std.proofs.lemmas.List.{take_all}
use Rattle.psi_log_format.proofs.RowsLemmas.{less_differs, less_never}
use Rattle.psi_log_format.proofs.row_list.is_less.Goals as goal

pub returns-then-row-queue : goal.returns-then-row-queue
returns-then-row-queue c =
    sym (less_differs c.args.row.now c.args.next.now c.loop-queue.queue c.loop-queue.invariant (omega arith) (omega arith) c.if-row-queue.true)

pub returns : goal.returns
returns c =
    let row = take_all c.loop-queue.queue c.args.row.now (omega arith) in
    let next = take_all c.loop-queue.queue c.args.next.now (omega arith) in
    sym (less_never c.args.row.now c.args.next.now (sym row ∙ c.loop-queue.invariant ∙ next))

-- Answers in the proof of `StateList::push_rows`.
use Rattle.std.proofs.Common.{◌∙◌, ap, ◌+◌, ◌*◌, ◌++◌, length, length-append, arith}
use Rattle.std.proofs.Math.Nat.{add-mul}
use Rattle.psi_log_format.specs.Rows.{rows, States}
use Rattle.psi_log_format.proofs.RowsLemmas.{rows_append}
use Rattle.psi_log_format.proofs.state_list.StateList.push_rows.Goals as goal

pub invariant_of-self-2 : goal.invariant_of-self-2
invariant_of-self-2 c =
    let inside = c.self.inside in
    let queues = ap (λ (s : States). c.args.count * s.queues) c.self.view_is in
    let all = ap length c.in_ok-push_all.ensures.pushed ∙ length-append inside.numbers.items c.args.numbers.now in
    let sum = add-mul inside.count c.args.count inside.queues in
    let long = c.self.invariant.2 in
    let more = c.requires in (
      c.self.invariant.0,
      c.self.invariant.1,
      omega arith,
    )

pub returns-clause-states : goal.returns-clause-states
returns-clause-states c =
    let inside = c.self.inside in
    ap (rows (inside.count + c.args.count) inside.queues) c.in_ok-push_all.ensures.pushed
    ∙ rows_append inside.count c.args.count inside.queues inside.numbers.items c.args.numbers.now c.self.invariant.2
    ∙ ap (λ (s : States). s.states ++ rows c.args.count s.queues c.args.numbers.now) c.self.view_is

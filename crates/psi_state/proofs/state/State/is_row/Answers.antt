-- Answers in the proof of `State::is_row`.
use Rattle.std.proofs.Common.{◌*◌, ◌/◌, refl, arith}
use Rattle.psi_state.proofs.QuadsLemmas.{row-from_quads}
use Rattle.psi_state.proofs.state.State.is_row.Goals as goal

pub returns-then-begins_as : goal.returns-then-begins_as
returns-then-begins_as c =
    let quads = c.len-queues.result / 4 in
    row-from_quads c.args.row.now c.args.self.now quads (4 * quads) c.ends_as.result (λ k. omega (arith, c.type_inv.row k)) c.len-queues.ensures.vector.each
    (omega (arith, c.len-queues.ensures.value)) refl
    (c.begins_as.ensures.0 c.if-begins_as.true) c.ends_as.ensures

-- Answers in the proof of `table_values`.
use Rattle.std.proofs.Common.{◌<◌, ◌+◌, length, arith}
use Rattle.psi_net_model.proofs.ServersLemmas.{values_turn, values_past}
use Rattle.psi_net_model.proofs.expansion.table_values.Goals as goal

pub returns-then-values : goal.returns-then-values
returns-then-values c =
    let small : c.loop-place.place < length c.args.tables.now = omega (arith, c.loop-place-test.true, c.len-place-end.ensures) in
    let turn = values_turn c.args.tables.now c.loop-place.place c.loop-place.values c.row.result.now small c.row.ensures c.loop-place.invariant.0 in
    let past = values_past c.args.tables.now (c.loop-place.place + 1) in
    let many = c.if-values.true in
    omega arith

-- Answers in the proof of `StateTable::reserve`.
use Rattle.std.proofs.Common.{refl, arith}
use Rattle.psi_pool.proofs.KeepingLemmas.{table-empty}
use Rattle.psi_pool.proofs.state_table.StateTable.reserve.Goals as goal

pub returns-clause-table : goal.returns-clause-table
returns-clause-table c =
    let used = c.buckets_for-used.ensures in
    let nodes = c.in_ok-nodes.ensures in
    let heads = c.in_ok-heads.ensures.count in
    let most = c.requires in
    table-empty c.in_ok-heads.heads.items refl (omega arith) (omega arith) (omega arith) refl (λ b less. c.in_ok-heads.ensures.none b (omega arith))

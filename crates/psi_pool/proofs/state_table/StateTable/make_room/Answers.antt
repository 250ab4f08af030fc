-- Answers in the proof of `StateTable::make_room`.
use Rattle.std.proofs.Common.{arith}
use Rattle.psi_pool.proofs.KeepingLemmas.{table-full}
use Rattle.psi_pool.proofs.state_table.StateTable.make_room.Goals as goal

pub returns-then-self-len-clause-free : goal.returns-then-self-len-clause-free
returns-then-self-len-clause-free c =
    let same = c.link.ensures.room in
    let room = c.requires.room in
    table-full c.link.new.self c.args.self.now c.link.ensures.table c.link.ensures.linked c.link.ensures.members (omega arith)

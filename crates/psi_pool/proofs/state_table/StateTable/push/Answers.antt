-- Answers in the proof of `StateTable::push`.
use Rattle.std.proofs.Common.{[], ◌∷◌}
use Rattle.psi_state.proofs.SameLemmas.{same-itself, same-through, same-append}
use Rattle.psi_pool.proofs.KeepingLemmas.{members-inserted}
use Rattle.psi_pool.proofs.state_table.StateTable.push.Goals as goal

pub returns-clause-members : goal.returns-clause-members
returns-clause-members c =
    let t = c.make_room.new.self in
    same-through (members-inserted t.nodes.items t.len (record { state = c.args.x; next = 4096 }) c.make_room.ensures.free)
    (same-append (same-itself (c.args.x ∷ [])) c.make_room.ensures.members)

-- Answers in the proof of `work::write_closed`.
use Rattle.std.proofs.Common.{refl, subst}
use Rattle.psi_program.proofs.FinishingLemmas.{finished_as, finished_with}
use Rattle.psi_reply.specs.Reply.{Reply, room_reply}
use Rattle.psi_reply.specs.Ending.{EndsWith}
use Rattle.psi_reply.proofs.ClosingLemmas.{first_other-none}
use Rattle.psi_streams.specs.Reply.{table_reply, closed_samples_of}
use Rattle.psi_streams.proofs.NamingLemmas.{ends_named}
use Rattle.psi_streams.proofs.StatesLemmas.{closed_fits, closed_over}
use Rattle.psi_streams.proofs.work.write_closed.Goals as goal

pub returns-in-Err : goal.returns-in-Err
returns-in-Err g c =
    let task = c.args.task.now in
    let table = task.asked.table in
    let net = c.args.net.now in
    let reply = room_reply net c.args.total (table_reply task.asked.steps net table.seed table.first (closed_samples_of net table.seed c.args.total table.first table.count)) in
    finished_with _ _ _ _ _ _ c.finish.result c.finish.ensures (ends_named _ _ _ (c.in-Err.ensures.none reply))

pub returns-then-not-has_room : goal.returns-then-not-has_room
returns-then-not-has_room g c =
    let task = c.args.task.now in
    let table = task.asked.table in
    let none = first_other-none c.args.net.now c.in-Ok.moves.items c.in-Ok.ensures.moves in
    finished_with _ _ _ _ _ _ c.finish-then-not-has_room.result c.finish-then-not-has_room.ensures
    (closed_over task.name.now task.asked.steps c.args.net.now table.seed table.first table.count c.args.total none (λ few. (let yes = c.if-not-has_room.ensures.1 few in absurd cc)))

pub returns : goal.returns
returns g c =
    let task = c.args.task.now in
    let table = task.asked.table in
    let none = first_other-none c.args.net.now c.in-Ok.moves.items c.in-Ok.ensures.moves in
    let same = closed_fits task.name.now task.asked.steps c.args.net.now table.seed table.first table.count c.args.total none (c.if-not-has_room.ensures.0 refl) in
    finished_as _ _ _ _ _ _ c.write_moves.result c.write_moves.ensures (λ ending ends. subst (λ (r : Reply). EndsWith ending r) same ends)

-- Answers in the proof of `work::write_states`.
use Rattle.std.proofs.Common.{subst}
use Rattle.psi_program.proofs.FinishingLemmas.{finished_as}
use Rattle.psi_reply.specs.Reply.{Reply}
use Rattle.psi_reply.specs.Ending.{EndsWith}
use Rattle.psi_streams.proofs.StatesLemmas.{states_open, states_closed}
use Rattle.psi_streams.proofs.work.write_states.Goals as goal

pub returns-in-Some : goal.returns-in-Some
returns-in-Some g c =
    let task = c.args.task.now in
    let table = task.asked.table in
    let same = states_closed task.name.now task.asked.steps c.args.net.now table.seed table.first table.count table.total c.in-Some.total c.in-Some.is in
    finished_as _ _ _ _ _ _ c.write_closed.result c.write_closed.ensures (λ ending ends. subst (λ (r : Reply). EndsWith ending r) same ends)

pub returns-in-None : goal.returns-in-None
returns-in-None g c =
    let task = c.args.task.now in
    let table = task.asked.table in
    let same = states_open task.name.now task.asked.steps c.args.net.now table.seed table.first table.count table.total c.in-None.is in
    finished_as _ _ _ _ _ _ c.write_open.result c.write_open.ensures (λ ending ends. subst (λ (r : Reply). EndsWith ending r) same ends)

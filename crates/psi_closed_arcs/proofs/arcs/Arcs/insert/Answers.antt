-- Answers in the proof of `Arcs::insert`.
use Rattle.std.proofs.Common.{arith}
use Rattle.psi_closed_arcs.proofs.PuttingLemmas.{insert-arcs}
use Rattle.psi_closed_arcs.proofs.arcs.Arcs.insert.Goals as goal

pub returns-clause-arcs : goal.returns-clause-arcs
returns-clause-arcs c =
    let small = c.row-row.ensures.small in
    insert-arcs c.args.self.now.arcs c.put.new.self.arcs c.args.arc c.row-row.result c.insert.new.self (omega arith) c.row-row.ensures.arcs c.insert.ensures c.put.ensures.own c.put.ensures.others

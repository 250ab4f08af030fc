-- Answers in the proof of `Arcs::total`.
use Rattle.psi_closed_arcs.proofs.RowsLemmas.{seen-ranged}
use Rattle.psi_closed_arcs.proofs.arcs.Arcs.total.Goals as goal

pub returns-clause-ranged : goal.returns-clause-ranged
returns-clause-ranged c = (let i = c.self.inside in seen-ranged i.rows.items i.levels i.total c.args.self.now c.self.invariant c.self.view_is)

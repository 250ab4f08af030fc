-- Answers in the proof of `Arcs::len`.
use Rattle.std.proofs.Common.{arith}
use Rattle.std.proofs.lemmas.Grind.{common_steps}
use Rattle.psi_closed_arcs.proofs.RowsLemmas.{seen-length, seen-distinct, seen-ranged}
use Rattle.psi_closed_arcs.proofs.arcs.Arcs.len.Goals as goal

pub returns-clause-value : goal.returns-clause-value
returns-clause-value c = grind (arith, common_steps, seen-length)

pub returns-clause-distinct : goal.returns-clause-distinct
returns-clause-distinct c = (let i = c.self.inside in seen-distinct i.rows.items i.levels i.total c.args.self.now c.self.invariant c.self.view_is)

pub returns-clause-ranged : goal.returns-clause-ranged
returns-clause-ranged c = (let i = c.self.inside in seen-ranged i.rows.items i.levels i.total c.args.self.now c.self.invariant c.self.view_is)

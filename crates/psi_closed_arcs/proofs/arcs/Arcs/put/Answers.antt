-- Answers in the proof of `Arcs::put`.
use Rattle.psi_closed_arcs.proofs.RowsLemmas.{written-rows, written-own, written-others}
use Rattle.psi_closed_arcs.proofs.arcs.Arcs.put.Goals as goal

pub invariant_of-self : goal.invariant_of-self
invariant_of-self c =
    written-rows c.self.inside.rows.items c.self.inside.levels c.self.inside.total c.args.self.now c.self.invariant c.self.view_is c.args.level c.args.before
    c.end_of.result c.args.row c.requires.level c.requires.before c.end_of.ensures c.requires.ranged

pub returns-clause-own : goal.returns-clause-own
returns-clause-own c =
    written-own c.self.inside.rows.items c.self.inside.levels c.self.inside.total c.args.self.now c.self.invariant c.self.view_is c.args.level c.args.before
    c.end_of.result c.args.row c.requires.level c.requires.before c.end_of.ensures c.requires.ranged

pub returns-clause-others : goal.returns-clause-others
returns-clause-others c l s v other =
    written-others c.self.inside.rows.items c.self.inside.levels c.self.inside.total c.args.self.now c.self.invariant c.self.view_is c.args.level c.args.before
    c.end_of.result c.args.row c.requires.level c.requires.before c.end_of.ensures c.requires.ranged l s v other

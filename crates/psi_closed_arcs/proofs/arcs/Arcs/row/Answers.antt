-- Answers in the proof of `Arcs::row`.
use Rattle.std.proofs.Common.{ap, ◌∙◌, arith}
use Rattle.psi_closed_arcs.specs.Inner.RowsKept.{sums_at}
use Rattle.psi_closed_arcs.proofs.RowsLemmas.{seen-total, seen-end, seen-row, seen-range, read-row}
use Rattle.psi_closed_arcs.proofs.arcs.Arcs.row.Goals as goal

pub returns : goal.returns
returns c =
    let i = c.self.inside in
    let end = seen-end i.rows.items i.levels i.total c.args.self.now c.self.invariant c.self.view_is c.args.level c.args.before c.requires.level c.requires.before in
    let read = read-row i.rows.items c.end_of.result c.index.result.now (omega arith) c.index.ensures ∙ ap (λ k. sums_at i.rows.items k) c.end_of.ensures in
    let keep = c.self.invariant in
    record {
      arcs = seen-row i.rows.items i.levels i.total c.args.self.now keep c.self.view_is c.args.level c.args.before c.index.result.now c.requires.level c.requires.before read;
      small = omega (arith, seen-total i.rows.items i.levels i.total c.args.self.now keep c.self.view_is, keep.small);
      ranged = seen-range i.rows.items i.levels i.total c.args.self.now keep c.self.view_is c.args.level c.args.before c.index.result.now c.requires.level c.requires.before read;
    }

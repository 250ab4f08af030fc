-- Answers in the proof of `Arcs::has`.
use Rattle.std.proofs.Common.{◌≤◌, ap, sym, ◌∙◌, arith}
use Rattle.psi_closed_arcs.specs.Inner.RowsKept.{sums_at}
use Rattle.psi_closed_arcs.proofs.RowsLemmas.{seen-total, seen-end, seen-row, read-row}
use Rattle.psi_closed_arcs.proofs.arcs.Arcs.has.Goals as goal

pub returns : goal.returns
returns c =
    let i = c.self.inside in
    let keep = c.self.invariant in
    let before : c.args.arc.before ≤ c.args.self.now.total = omega arith in
    let end = seen-end i.rows.items i.levels i.total c.args.self.now keep c.self.view_is c.args.arc.level c.args.arc.before c.requires.level before in
    let row = seen-row i.rows.items i.levels i.total c.args.self.now keep c.self.view_is c.args.arc.level c.args.arc.before c.index.result.now c.requires.level before
    (read-row i.rows.items c.end_of.result c.index.result.now (omega arith) c.index.ensures ∙ ap (λ k. sums_at i.rows.items k) c.end_of.ensures) c.args.arc.value in
    let total = seen-total i.rows.items i.levels i.total c.args.self.now keep c.self.view_is in
    let small = keep.small in
    (λ given. row.0 (record { small = omega arith; there = sym c.holds.ensures ∙ given }), λ member. c.holds.ensures ∙ (row.1 member).there)

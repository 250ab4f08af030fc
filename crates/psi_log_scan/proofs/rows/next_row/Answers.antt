-- Answers in the proof of `rows::next_row`.
use Rattle.std.proofs.Common.{rules, length, ◌∷◌, [], ap, ◌∙◌, length-append, refl, arith}
use Rattle.psi_log_scan.proofs.RowsLemmas.{below_behind}
use Rattle.psi_log_scan.proofs.rows.next_row.Goals as goal

pub returns-clause-next : goal.returns-clause-next
returns-clause-next c =
    let old = c.args.states.now.states in
    let new = c.push_row.new.self.states in
    let row = c.read_row.new.row in
    let made = c.in_ok-push_row.ensures.states in
    let count = ap length made ∙ length-append old (row ∷ []) in
    record {
      within = c.in-Some.ensures.within;
      there = c.in-Some.ensures.there;
      range = search rules;
      states = made;
      order = λ some. below_behind old new row made (c.if-not-is_in_order.ensures refl (omega arith));
    }

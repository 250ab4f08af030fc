-- Answers in the proof of `Rows::are_same`.
use Rattle.std.proofs.Common.{sym, ◌∙◌}
use Rattle.std.proofs.lemmas.Slice.Eq.{bytes_eq-Decides}
use Rattle.psi_log_format.proofs.RowsLemmas.{rows_same, rows_equal}
use Rattle.psi_log_format.proofs.row_list.Rows.are_same.Goals as goal

pub returns-then-self-other-2 : goal.returns-then-self-other-2
returns-then-self-other-2 c = (
  λ is. absurd cc,
  λ is. absurd (c.if-self-other-2.true (rows_equal c.self.inside.count c.other.inside.count c.self.inside.queues c.other.inside.queues c.self.inside.numbers.now c.other.inside.numbers.now
      c.self.invariant.2 c.other.invariant.2 (c.self.view_is ∙ is ∙ sym c.other.view_is)).1),
)

pub returns : goal.returns
returns c =
    let tells = bytes_eq-Decides c.self.inside.numbers.now c.other.inside.numbers.now in (
      λ is. sym c.self.view_is
          ∙ rows_same c.self.inside.count c.other.inside.count c.self.inside.queues c.other.inside.queues c.self.inside.numbers.now c.other.inside.numbers.now c.if-self-other.false c.if-self-other-2.false
          (tells.0 (sym c.eq.ensures ∙ is)) ∙ c.other.view_is,
      λ is. c.eq.ensures
          ∙ tells.1 (rows_equal c.self.inside.count c.other.inside.count c.self.inside.queues c.other.inside.queues c.self.inside.numbers.now c.other.inside.numbers.now c.self.invariant.2 c.other.invariant.2
          (c.self.view_is ∙ is ∙ sym c.other.view_is)).2,
    )

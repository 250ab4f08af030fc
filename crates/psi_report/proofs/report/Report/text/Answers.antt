-- Answers in the proof of `Report::text`.
use Rattle.std.proofs.Common.{◌≡◌, ℕ, List, IfOk, subst}
use Rattle.psi_report.specs.Text.{rows_text, text_of}
use Rattle.psi_report.proofs.RowLemmas.{rows_whole}
use Rattle.psi_report.proofs.report.Report.text.Goals as goal

pub returns : goal.returns
unfolding text_of
returns c =
    let held = c.in_ok-push_figures.ensures _ (c.in_ok-push_horizons.ensures _ (c.in_ok-push_numbers.ensures _ (c.in_ok-push_row.ensures _ c.new_table-table.ensures))) in
    let same = rows_whole c.args.self.now c.self.inside.samples c.self.inside.met c.self.inside.horizons.items c.as_slice.result.now c.self.inside.figures.items c.as_slice-2.result.now
    c.as_slice.ensures.value c.as_slice-2.ensures.value c.self.view_is in
    subst (λ (rows : List (List (List ℕ))). IfOk c.into_text.result (λ text. text.items ≡ rows_text rows)) same (c.into_text.ensures _ held)

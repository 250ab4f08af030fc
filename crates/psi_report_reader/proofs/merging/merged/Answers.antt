-- Answers in the proof of `merging::merged`.
use Rattle.std.proofs.Common.{sym, ◌∙◌, ap}
use Rattle.std.specs.Prelude.{ℕ, Err}
use Rattle.psi_report_reader.specs.declared.error.MergeError.TheVariants.{OtherNetwork}
use Rattle.psi_report_reader.proofs.MergeLemmas.{merged-other, merged-same}
use Rattle.psi_report_reader.proofs.merging.merged.Goals as goal

pub returns-in-Some : goal.returns-in-Some
returns-in-Some c = merged-other c.args.report c.args.other c.in-Some.place (sym c.in_ok-place.ensures ∙ c.in-Some.is) ∙ ap (λ (n : ℕ). Err (OtherNetwork n)) (sym c.line_of_sum.ensures)

pub returns : goal.returns
returns c = merged-same c.args.report c.args.other c.joined.result (sym c.in_ok-place.ensures ∙ c.in_default.is) c.joined.ensures

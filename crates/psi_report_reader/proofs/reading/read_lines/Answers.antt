-- Answers in the proof of `reading::read_lines`.
use Rattle.std.proofs.Common.{◌+◌, List, ℕ, Bor, sym, ◌∙◌, rules}
use Rattle.psi_report_reader.proofs.LineLemmas.{line_taken, line_refused}
use Rattle.psi_report_reader.proofs.reading.read_lines.Goals as goal

pub returns-then-not-branch : goal.returns-then-not-branch
returns-then-not-branch c =
    sym c.loop-place.invariant
    ∙ line_refused (λ (line : Bor (List ℕ)). line.now) c.args.lines.now c.loop-place.place (c.loop-place.place + 1) _ c.loop-place.report c.take_line.new.report
    c.in_ok-take_line.field-0 c.loop-place-test.true c.in_ok-take_line.ensures (search rules)

pub loop-place-preserved : goal.loop-place-preserved
loop-place-preserved c =
    sym (line_taken (λ (line : Bor (List ℕ)). line.now) c.args.lines.now c.loop-place.place (c.loop-place.place + 1) _ c.loop-place.report c.take_line.new.report
    c.in_ok-take_line.field-0 c.loop-place-test.true c.in_ok-take_line.ensures (search rules))
    ∙ c.loop-place.invariant

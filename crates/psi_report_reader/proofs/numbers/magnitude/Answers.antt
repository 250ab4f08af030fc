-- Answers in the proof of `numbers::magnitude`.
use Rattle.std.proofs.Common.{sym, ◌∙◌}
use Rattle.psi_report_reader.proofs.NumberLemmas.{digit_taken, digit_refused}
use Rattle.psi_report_reader.proofs.numbers.magnitude.Goals as goal

pub returns-in-None-clause-value : goal.returns-in-None-clause-value
returns-in-None-clause-value c =
    sym (digit_refused c.args.word.now c.loop-byte.byte-index c.loop-byte.value c.loop-byte-test.true (sym c.in-None.ensures.value)) ∙ c.loop-byte.invariant.0

pub loop-byte-preserved : goal.loop-byte-preserved
loop-byte-preserved c = (
  sym (digit_taken c.args.word.now c.loop-byte.byte-index c.loop-byte.value c.in-Some.next c.loop-byte-test.true (sym c.in-Some.ensures.value)) ∙ c.loop-byte.invariant.0,
  c.in-Some.ensures.small,
)

-- Answers in the proof of `numbers::number_in`.
use Rattle.std.proofs.Common.{ap, sym, ◌∙◌, Ok, ℕ, arith}
use Rattle.psi_log_words.proofs.PieceLemmas.{small_word, right_word, high_word, low_word, longer_word}
use Rattle.psi_log_words.proofs.numbers.number_in.Goals as goal
use Rattle.psi_log_words.proofs.numbers.number_in.Goals.{else-count-word-via-then-count-word+then-least-value+else-value-most, else-count-word-via-then-count-word+else-least-value, else-count-word-via-else-count-word}

pub returns-in_default-clause-value : goal.returns-in_default-clause-value
returns-in_default-clause-value c = rw c.at.ensures (small_word c.args.line c.args.least c.args.most c.args.word.now (omega arith) c.in_default.ensures)

pub returns-then-value-most-clause-value : goal.returns-then-value-most-clause-value
returns-then-value-most-clause-value c =
    let read = c.in-Some.ensures in
    right_word c.args.line c.args.least c.args.most c.args.word.now (omega (arith, c.in-Some.ensures.2)) c.in-Some.ensures.0 (omega (arith, c.in-Some.ensures.1)) (omega (arith, c.in-Some.ensures.1))
    ∙ ap (λ (n : ℕ). Ok n) (sym c.in-Some.ensures.1)

pub returns-clause-value : goal.returns-clause-value
returns-clause-value c =
    rw c.at-2.ensures (elim c.else-count-word.branch [
      | else-count-word-via-then-count-word+then-least-value+else-value-most w ↦ high_word c.args.line c.args.least c.args.most c.args.word.now (omega (arith, c.in-Some.ensures.2)) (omega (arith, c.in-Some.ensures.1))
      | else-count-word-via-then-count-word+else-least-value w ↦ low_word c.args.line c.args.least c.args.most c.args.word.now (omega (arith, c.in-Some.ensures.2)) (omega (arith, c.in-Some.ensures.1))
      | else-count-word-via-else-count-word w ↦ longer_word c.args.line c.args.least c.args.most c.args.word.now (λ whole. w.if-count-word.false (c.in-Some.ensures.2 ∙ whole))
    ])
